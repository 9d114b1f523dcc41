use Rattle.std.proofs.Common.{◌≡◌, drop}
use Rattle.desk_log.specs.Absent.{place_from}
use Rattle.desk_log.proofs.absent.place_of.Given as goal

abbrev pub invariant-loop-k : goal.invariant-loop-k
invariant-loop-k l = place_from l.k l.text (drop l.k l.owed) ≡ place_from 0 l.text l.owed
