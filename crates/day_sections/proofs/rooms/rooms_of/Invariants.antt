use Rattle.std.proofs.Common.{◌≡◌, ◌++◌, drop}
use Rattle.day_sections.specs.Rooms.{rooms_from}
use Rattle.day_sections.proofs.rooms.rooms_of.Given as goal

abbrev pub invariant-loop-event : goal.invariant-loop-event
invariant-loop-event l = l.rooms.items ++ rooms_from l.last (drop l.event-index l.events) ≡ rooms_from 0 l.events
