use Rattle.std.proofs.Common.{◌≡◌, take}
use Rattle.desk_log.specs.Frames.{with_soh}
use Rattle.desk_log.proofs.frames.with_soh.Given as goal

abbrev pub invariant-loop-byte : goal.invariant-loop-byte
invariant-loop-byte l = l.text.items ≡ with_soh (take l.byte-index l.log)
