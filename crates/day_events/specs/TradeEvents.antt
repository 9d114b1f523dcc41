-- The events that report trades.
use Rattle.std.specs.Prelude.{ℕ, List, filter_map, Option, Some, None}
use Rattle.venue_rules.specs.declared.trail.TrailRow.{TrailRow}
use Rattle.venue_rules.specs.Facts.{trades}
use Rattle.venue_rules.specs.Market.{Market}
use Rattle.venue_rules.specs.Run.{run}
use Rattle.market_laws.specs.TradeReports.{AreInPairs, TradeReport}
use Rattle.venue_core.specs.State.{State}
use Rattle.day_events.specs.declared.event.Event.{Event}
use Rattle.day_events.specs.declared.event.What.{What}
use Rattle.day_events.specs.declared.event.What.TheVariants as what
use Rattle.day_events.specs.declared.shown.ShownPrice.{ShownPrice}
use Rattle.day_events.specs.Days.{AreEvents}

-- the trade that an event reports to somebody
abbrev pub report_by : ℕ → What → Option TradeReport
report_by to (what.Filled x) = Some (record { to = to; trade = x.trade })
report_by to (what.Traded x) = Some (record { to = to; trade = x.trade })
report_by to _ = None

abbrev pub trades_reported : List Event → List TradeReport
trades_reported es = filter_map (λ (e : Event). report_by e.to e.what) es

-- the events of a day report its trades in their order, each twice, once to each party
abbrev pub EventsReportTrades : Type 0
EventsReportTrades =
    (m : Market) (rs : List TrailRow) (s : State) (es : List Event) (ps : List ShownPrice) (day : AreEvents m rs s es ps) → AreInPairs 1 (trades (run m day.items).history.facts) (trades_reported es)
