use Rattle.std.proofs.Common.{◌≡◌, drop}
use Rattle.trade_reconstruction.specs.Indexed.{name_key}
use Rattle.trade_reconstruction.proofs.key.digits_behind.Given as goal

abbrev pub invariant-loop-byte : goal.invariant-loop-byte
invariant-loop-byte l = name_key l.key (drop l.byte-index l.bytes) ≡ name_key l.start l.bytes
