use Rattle.std.proofs.Common.{◌≡◌, ◌+◌, ◌*◌, ◌^◌, ◌≤◌, drop, cond}
use Rattle.std.specs.List.{sum_by}
use Rattle.day_tables.specs.Bulletin.{is_of}
use Rattle.day_tables.proofs.bulletin.number.Given as goal

-- the sum so far, and then that of the others, is the whole
abbrev pub invariant-loop-trade : goal.invariant-loop-trade
invariant-loop-trade l = (l.count + sum_by (λ t. cond (is_of l.instrument l.place t) 1 0) (drop l.trade-index l.trades) ≡ sum_by (λ t. cond (is_of l.instrument l.place t) 1 0) l.trades) × (l.count ≤ l.trade-index)
