use Rattle.std.proofs.Common.{◌≡◌, drop}
use Rattle.client_ids.specs.ClientIds.{digits_behind}
use Rattle.client_ids.proofs.client_id.digits_behind.Given as goal

abbrev pub invariant-loop-byte : goal.invariant-loop-byte
invariant-loop-byte l = digits_behind l.hash_key (drop l.byte-index l.bytes) ≡ digits_behind l.start l.bytes
