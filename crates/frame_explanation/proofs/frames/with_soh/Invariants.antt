use Rattle.std.proofs.Common.{◌≡◌, take}
use Rattle.frame_explanation.specs.Frames.{with_soh}
use Rattle.frame_explanation.proofs.frames.with_soh.Given as goal

abbrev pub invariant-loop-byte : goal.invariant-loop-byte
invariant-loop-byte l = l.text.items ≡ with_soh l.bars (take l.byte-index l.log)
