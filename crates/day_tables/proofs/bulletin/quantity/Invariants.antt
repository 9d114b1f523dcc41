use Rattle.std.proofs.Common.{◌≡◌, ◌+◌, ◌*◌, ◌^◌, ◌≤◌, drop, cond}
use Rattle.std.specs.List.{sum_by}
use Rattle.day_tables.specs.Bulletin.{moved}
use Rattle.day_tables.proofs.bulletin.quantity.Given as goal

-- the sum so far, and then that of the others, is the whole
abbrev pub invariant-loop-trade : goal.invariant-loop-trade
invariant-loop-trade l = (l.total + sum_by (moved l.instrument l.place) (drop l.trade-index l.trades) ≡ sum_by (moved l.instrument l.place) l.trades) × (l.total ≤ l.trade-index * 2 ^ 64)
