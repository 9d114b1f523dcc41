use Rattle.std.proofs.Common.{◌≡◌, ◌++◌, drop}
use Rattle.desk_log.specs.Absent.{places_from}
use Rattle.desk_log.proofs.absent.places_of.Given as goal

abbrev pub invariant-loop-k : goal.invariant-loop-k
invariant-loop-k l = l.places.items ++ places_from l.k (drop l.k l.found) ≡ places_from 0 l.found
