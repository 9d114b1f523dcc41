use Rattle.std.proofs.Common.{◌≡◌, ◌+◌, drop}
use Rattle.frame_explanation.specs.Frames.{run_length}
use Rattle.frame_explanation.proofs.frames.run_length.Given as goal

abbrev pub invariant-loop-at : goal.invariant-loop-at
invariant-loop-at l = l.at + run_length (drop l.at l.bytes) ≡ run_length l.bytes
