use Rattle.std.proofs.Common.{◌≡◌, take}
use Rattle.day_events.specs.Days.{AreEvents}
use Rattle.day_events.proofs.day.day_of.Given as goal

abbrev pub invariant-loop-row : goal.invariant-loop-row
invariant-loop-row l = (l.venue.items ≡ l.row-index) × AreEvents (record { participants = l.fn.participants; instruments = l.fn.instruments }) (take l.row-index l.rows) l.venue l.events.items l.shown.items
