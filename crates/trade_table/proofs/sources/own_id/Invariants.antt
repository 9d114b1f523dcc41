use Rattle.std.proofs.Common.{◌≡◌, take}
use Rattle.trade_table.specs.Sources.{id_of, newest}
use Rattle.trade_table.proofs.sources.own_id.Given as goal

abbrev pub invariant-loop-at : goal.invariant-loop-at
invariant-loop-at l = newest (id_of l.quote) (take l.at l.known) ≡ newest (id_of l.quote) l.known
