use Rattle.std.proofs.Common.{◌≡◌, take}
use Rattle.trail_digest.specs.Printed.{readable}
use Rattle.trail_digest.proofs.text.readable.Given as goal

abbrev pub invariant-loop-byte : goal.invariant-loop-byte
invariant-loop-byte l = l.shown.items ≡ readable (take l.byte-index l.text)
