use Rattle.std.proofs.Common.{◌≡◌, ◌-◌}
use Rattle.page_text.specs.Parts.{with_parts}
use Rattle.day_tables.specs.Parts.{each_from}
use Rattle.chart_axes.specs.Ticks.{most_prices, price_parts}
use Rattle.chart_axes.proofs.ticks.add_each_price.Given as goal

-- the parts so far, and then those of the others, are all
abbrev pub invariant-loop-place : goal.invariant-loop-place
invariant-loop-place l = with_parts l.page (each_from (price_parts l.scale l.step) l.place (most_prices - l.place)) ≡ with_parts l.fn.page (each_from (price_parts l.scale l.step) 0 most_prices)
