use Rattle.std.proofs.Common.{◌≡◌, drop, []}
use Rattle.day_sections.specs.Refusals.{causes_from}
use Rattle.day_sections.proofs.refusals.causes.Given as goal

abbrev pub invariant-loop-event : goal.invariant-loop-event
invariant-loop-event l = causes_from l.causes.items (drop l.event-index l.events) ≡ causes_from [] l.events
