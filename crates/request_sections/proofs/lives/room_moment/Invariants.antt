use Rattle.std.proofs.Common.{◌≡◌, drop}
use Rattle.request_sections.specs.Lives.{room_moment}
use Rattle.request_sections.proofs.lives.room_moment.Given as goal

-- none so far
abbrev pub invariant-loop-event : goal.invariant-loop-event
invariant-loop-event l = room_moment l.quoted (drop l.event-index l.said) ≡ room_moment l.quoted l.said
