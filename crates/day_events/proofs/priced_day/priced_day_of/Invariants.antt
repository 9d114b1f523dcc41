use Rattle.std.proofs.Common.{◌≡◌, take}
use Rattle.day_events.proofs.Pricing.{IsKept}
use Rattle.day_events.proofs.priced_day.priced_day_of.Given as goal

abbrev pub invariant-loop-row : goal.invariant-loop-row
invariant-loop-row l = (l.venue.items ≡ l.row-index) × IsKept (record { participants = l.fn.participants; instruments = l.fn.instruments }) (take l.row-index l.rows) l.venue l.events.items l.shown.items l.bests.items l.tops.items
