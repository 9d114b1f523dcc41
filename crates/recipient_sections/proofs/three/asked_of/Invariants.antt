use Rattle.std.proofs.Common.{◌≡◌, take, map}
use Rattle.day_events.specs.declared.event.Event.{Event}
use Rattle.recipient_sections.proofs.three.asked_of.Given as goal

-- the recipients so far
abbrev pub invariant-loop-event : goal.invariant-loop-event
invariant-loop-event l = l.made.items ≡ map (λ (e : Event). e.to) (take l.event-index l.asked)
