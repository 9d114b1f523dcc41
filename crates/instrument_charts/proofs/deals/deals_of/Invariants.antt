use Rattle.std.proofs.Common.{◌≡◌, ◌++◌, drop}
use Rattle.std.specs.List.{filter_map}
use Rattle.instrument_charts.specs.Deals.{deal_by}
use Rattle.instrument_charts.proofs.deals.deals_of.Given as goal

-- those that were made, and then those of the others, are all
abbrev pub invariant-loop-trade : goal.invariant-loop-trade
invariant-loop-trade l = l.deals.items ++ filter_map (deal_by l.reports) (drop l.trade-index l.trades) ≡ filter_map (deal_by l.reports) l.trades
