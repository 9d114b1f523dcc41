use Rattle.std.proofs.Common.{◌≡◌, drop}
use Rattle.instrument_charts.specs.Prices.{with_deals}
use Rattle.instrument_charts.proofs.prices.with_deals.Given as goal

abbrev pub invariant-loop-at : goal.invariant-loop-at
invariant-loop-at l = l.range ≡ with_deals l.fn.others (drop l.at l.deals)
