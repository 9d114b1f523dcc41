use Rattle.std.proofs.Common.{◌≡◌, drop}
use Rattle.request_sections.specs.Fate.{in_room}
use Rattle.request_sections.proofs.fate.in_room.Given as goal

-- nothing ended it so far
abbrev pub invariant-loop-event : goal.invariant-loop-event
invariant-loop-event l = in_room l.quoted l.last (drop l.event-index l.said) ≡ in_room l.quoted l.last l.said
