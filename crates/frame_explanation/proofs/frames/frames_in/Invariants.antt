use Rattle.std.proofs.Common.{◌≡◌, drop}
use Rattle.frame_explanation.specs.Frames.{frames_from}
use Rattle.frame_explanation.proofs.frames.frames_in.Given as goal

abbrev pub invariant-loop-one : goal.invariant-loop-one
invariant-loop-one l = frames_from l.count (drop l.one-index l.found) ≡ frames_from 0 l.found
