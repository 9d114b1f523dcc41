use Rattle.std.proofs.Common.{◌≡◌, ◌++◌, drop, filter}
use Rattle.instrument_charts.specs.Deals.{is_in}
use Rattle.instrument_charts.proofs.deals.deals_in.Given as goal

-- those that were kept, and then those of the others, are all
abbrev pub invariant-loop-deal : goal.invariant-loop-deal
invariant-loop-deal l = l.kept.items ++ filter (is_in l.instrument) (drop l.deal-index l.deals) ≡ filter (is_in l.instrument) l.deals
