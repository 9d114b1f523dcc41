use Rattle.std.proofs.Common.{◌≡◌, take}
use Rattle.desk_log.specs.Owed.{IsOwed, owed_views}
use Rattle.desk_log.proofs.owed.owed_of.Given as goal

abbrev pub invariant-loop-row : goal.invariant-loop-row
invariant-loop-row l = (l.venue.items ≡ l.row-index) × IsOwed l.fn.venue.market l.who (take l.row-index l.rows) l.venue (owed_views l.owed.items)
