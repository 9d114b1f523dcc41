-- Trades, as a chart shows them.
use Rattle.std.specs.Prelude.{ℕ, ◌-◌, ◌==◌, Bool, List, filter, length, slice_get, is_some, Option, Some, None}
use Rattle.std.specs.List.{filter_map}
use Rattle.venue_rules.specs.declared.trail.TradeFact.{TradeFact}
use Rattle.venue_rules.specs.declared.trail.TrailRow.{TrailRow}
use Rattle.day_events.specs.declared.event.Event.{Event}
use Rattle.day_sections.specs.Reports.{report_of}
use Rattle.instrument_charts.specs.declared.deals.Deal.{Deal}

-- a trade, at the moment of the row that reports it
abbrev pub deal_of : TradeFact → Option Event → Option Deal
deal_of t None = None
deal_of t (Some e) = Some (record { number = t.number; instrument = t.instrument; moment = e.at.moment; quantity = t.quantity; price = t.price; is_request = is_some t.room })

abbrev pub deal_by : List Event → TradeFact → Option Deal
deal_by rs t = deal_of t (report_of rs t.number)

-- the trades of a day, in their order, by the reports among its events
abbrev pub deals : List TradeFact → List Event → List Deal
deals ts rs = filter_map (deal_by rs) ts

abbrev pub is_in : ℕ → Deal → Bool
is_in x d = d.instrument == x

-- those of an instrument
abbrev pub deals_in : ℕ → List Deal → List Deal
deals_in x ds = filter (is_in x) ds

-- the moments of the first and last row; the start of 1970 of a day without rows

abbrev pub moment_or_start : Option TrailRow → ℕ
moment_or_start None = 0
moment_or_start (Some r) = r.moment

abbrev pub first_moment : List TrailRow → ℕ
first_moment rs = moment_or_start (slice_get rs 0)

abbrev pub last_moment : List TrailRow → ℕ
last_moment rs = moment_or_start (slice_get rs (length rs - 1))
