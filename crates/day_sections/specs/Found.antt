-- Each trade of a day has a report at its place.
use Rattle.std.specs.Prelude.{◌≡◌, ◌⊎◌, ℕ, ◌+◌, List, slice_get, Some}
use Rattle.venue_rules.specs.declared.facts.Trade.{Trade}
use Rattle.venue_rules.specs.declared.trail.TrailRow.{TrailRow}
use Rattle.venue_rules.specs.Facts.{trades}
use Rattle.venue_rules.specs.Market.{Market}
use Rattle.venue_rules.specs.Run.{run}
use Rattle.venue_core.specs.State.{State}
use Rattle.day_events.specs.declared.event.Event.{Event}
use Rattle.day_events.specs.declared.shown.ShownPrice.{ShownPrice}
use Rattle.day_events.specs.Days.{AreEvents}
use Rattle.day_sections.specs.Reports.{report_of, reports}

-- the report that is taken for the trade after the first k is one of it, to its buyer or to its seller
pub record IsFound (rs : List Event) (k : ℕ) (t : Trade) : Type 0 where
  pub report : Event
  pub found : report_of rs (k + 1) ≡ Some report
  pub party : (report.to ≡ t.buyer) ⊎ (report.to ≡ t.seller)

-- so it is of each trade of a day, in the reports among its events
abbrev pub TradesAreFound : Type 0
TradesAreFound =
    (m : Market) (rows : List TrailRow) (s : State) (es : List Event) (ps : List ShownPrice) (day : AreEvents m rows s es ps) (k : ℕ) (t : Trade) → slice_get (trades (run m day.items).history.facts) k ≡ Some t → IsFound (reports es) k t
