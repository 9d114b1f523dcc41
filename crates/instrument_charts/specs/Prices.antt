-- The range of the prices on a chart: that of the trades, and of the best prices near to them.
use Rattle.std.specs.Prelude.{ℕ, ◌*◌, max, nat_le, ℤ, int_lt, Bool, true, List, [], ◌∷◌, Option, Some, None, if◌then◌else◌}
use Rattle.chart_axes.specs.declared.range.Range.{Range}
use Rattle.chart_axes.specs.Ranges.{covered, distance}
use Rattle.instrument_charts.specs.declared.deals.Deal.{Deal}
use Rattle.instrument_charts.specs.declared.lines.Point.{Point}

-- with the prices of trades
abbrev pub with_deals : Option Range → List Deal → Option Range
with_deals r [] = r
with_deals r (d ∷ ds) = Some (covered d.price (with_deals r ds))

-- how far beyond the trades a best price may be: once their range, at least eight ticks
abbrev pub reach : ℕ → Range → ℕ
reach tick r = max (8 * tick) (distance r.high r.low)

-- how far a price is beyond a range
abbrev pub beyond : Range → ℤ → ℕ
beyond r p = if int_lt r.high p then distance p r.high else (if int_lt p r.low then distance r.low p else 0)

-- a best price that is far from the trades does not widen their range, so that one typing error leaves a chart to read
abbrev pub is_near : ℕ → Option Range → ℤ → Bool
is_near tick None p = true
is_near tick (Some r) p = nat_le (beyond r p) (reach tick r)

abbrev pub with_point : ℕ → Option Range → Option Range → Option ℤ → Option Range
with_point tick traded r None = r
with_point tick traded r (Some p) = if is_near tick traded p then Some (covered p r) else r

-- with the best prices of a side that are near to the trades
abbrev pub with_points : ℕ → Option Range → Option Range → List Point → Option Range
with_points tick traded r [] = r
with_points tick traded r (p ∷ ps) = with_point tick traded (with_points tick traded r ps) p.price

abbrev pub range_by : ℕ → Option Range → List Point → List Point → Option Range
range_by tick traded bids offers = with_points tick traded (with_points tick traded traded offers) bids

-- of an instrument with this tick; none where it has neither a trade nor a best price
abbrev pub range_of : ℕ → List Deal → List Point → List Point → Option Range
range_of tick ds bids offers = range_by tick (with_deals None ds) bids offers
