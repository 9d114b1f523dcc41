use Rattle.std.proofs.Common.{◌≡◌}
use Rattle.venue_core.specs.VenueFacts.{IsHistory}
use Rattle.venue_rules.specs.Facts.{History}
use Rattle.day_events.specs.Bests.{tops}
use Rattle.day_events.proofs.best.tops_of.Given as goal

abbrev pub invariant-loop-place : goal.invariant-loop-place
invariant-loop-place l = (h : History) → IsHistory l.venue h → l.tops.items ≡ tops h.facts l.place
