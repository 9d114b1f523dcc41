use Rattle.std.proofs.Common.{◌≡◌, take, map}
use Rattle.day_events.specs.declared.event.Event.{Event}
use Rattle.day_sections.specs.Folds.{hour_of}
use Rattle.request_sections.proofs.section.hours_of.Given as goal

-- the hours of the requests so far
abbrev pub invariant-loop-room : goal.invariant-loop-room
invariant-loop-room l = l.hours.items ≡ map (λ (e : Event). hour_of e.at.moment) (take l.room-index l.rooms)
