use Rattle.std.proofs.Common.{◌≡◌, ◌+◌, true, drop}
use Rattle.frame_explanation.specs.Broken.{to_trailer}
use Rattle.frame_explanation.proofs.broken.to_trailer.Given as goal

abbrev pub invariant-loop-at : goal.invariant-loop-at
invariant-loop-at l = l.at + to_trailer l.starts (drop l.at l.rest) ≡ to_trailer true l.rest
