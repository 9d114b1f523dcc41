use Rattle.std.proofs.Common.{◌≡◌, ◌++◌, ◌-◌, length}
use Rattle.venue_core.specs.VenueFacts.{IsHistory}
use Rattle.venue_rules.specs.Facts.{History}
use Rattle.instrument_charts.specs.Rests.{rests, rests_from}
use Rattle.instrument_charts.proofs.rests.rests_of.Given as goal

-- those that were added, and then the others, are all
abbrev pub invariant-loop-instrument : goal.invariant-loop-instrument
invariant-loop-instrument l = (h : History) → IsHistory l.venue h → l.rests.items ++ rests_from h.facts l.instrument (length l.venue.market.instruments - l.instrument) ≡ rests h.facts (length l.venue.market.instruments)
