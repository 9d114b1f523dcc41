use Rattle.std.proofs.Common.{◌≡◌, drop}
use Rattle.request_sections.specs.Keys.{name_key, name_on}
use Rattle.request_sections.proofs.keys.name_key.Given as goal

abbrev pub invariant-loop-byte : goal.invariant-loop-byte
invariant-loop-byte l = name_on l.key (drop l.byte-index l.name) ≡ name_key l.name
