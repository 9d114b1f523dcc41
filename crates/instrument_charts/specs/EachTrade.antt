-- Each trade of a day is charted.
use Rattle.std.specs.Prelude.{◌≡◌, List, map}
use Rattle.venue_rules.specs.declared.trail.TradeFact.{TradeFact}
use Rattle.venue_rules.specs.declared.trail.TrailRow.{TrailRow}
use Rattle.venue_rules.specs.Market.{Market}
use Rattle.venue_rules.specs.Readings.{trade_facts}
use Rattle.venue_rules.specs.Run.{run}
use Rattle.venue_core.specs.State.{State}
use Rattle.day_events.specs.declared.event.Event.{Event}
use Rattle.day_events.specs.declared.shown.ShownPrice.{ShownPrice}
use Rattle.day_events.specs.Days.{AreEvents}
use Rattle.day_sections.specs.Reports.{reports}
use Rattle.instrument_charts.specs.declared.deals.Deal.{Deal}
use Rattle.instrument_charts.specs.Deals.{deals}

-- by the reports among a day's events, the trades on the charts are those of the run, in their order
abbrev pub TradesAreCharted : Type 0
TradesAreCharted =
    (m : Market) (rows : List TrailRow) (s : State) (es : List Event) (ps : List ShownPrice) (day : AreEvents m rows s es ps) →
    map (λ (d : Deal). d.number) (deals (trade_facts (run m day.items).history.facts) (reports es)) ≡ map (λ (t : TradeFact). t.number) (trade_facts (run m day.items).history.facts)
