use Rattle.std.proofs.Common.{◌≡◌, ◌-◌, ◌++◌, drop}
use Rattle.frame_explanation.specs.Frames.{found_from, found_in}
use Rattle.frame_explanation.proofs.frames.found_in.Given as goal

abbrev pub invariant-loop-at : goal.invariant-loop-at
invariant-loop-at l = l.found.items ++ found_from l.at (l.next - l.at) (drop l.at l.log) ≡ found_in l.log
