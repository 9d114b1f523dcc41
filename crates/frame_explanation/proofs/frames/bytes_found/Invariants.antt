use Rattle.std.proofs.Common.{◌≡◌, drop}
use Rattle.frame_explanation.specs.Frames.{bytes_found, bytes_from}
use Rattle.frame_explanation.proofs.frames.bytes_found.Given as goal

abbrev pub invariant-loop-one : goal.invariant-loop-one
invariant-loop-one l = bytes_from l.count (drop l.one-index l.found) ≡ bytes_found l.found
