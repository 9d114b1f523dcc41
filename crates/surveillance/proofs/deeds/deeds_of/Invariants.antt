use Rattle.std.proofs.Common.{◌≡◌, ◌++◌, drop}
use Rattle.surveillance.specs.Deeds.{deeds, deeds_from}
use Rattle.surveillance.proofs.deeds.deeds_of.Given as goal

-- those so far, and then those of the other events, are all
abbrev pub invariant-loop-event : goal.invariant-loop-event
invariant-loop-event l = l.deeds.items ++ deeds_from l.quotes.entries (drop l.event-index l.events) ≡ deeds l.events
