-- the bytes gone from `park` were appended
use Rattle.std.proofs.Common.{◌≡◌, ℕ, List, ◌++◌}
use Rattle.std.specs.Io.KnownBytes.{Appends}
use Rattle.tcp_line.proofs.giving.give.Given as goal

abbrev pub invariant-loop : goal.invariant-loop
invariant-loop g l = (done : List ℕ) × (l.initial.park ≡ done ++ l.park) × Appends (g.O.Write.contents l.initial.output) (g.O.Write.contents l.output) done
