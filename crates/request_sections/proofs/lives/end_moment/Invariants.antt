use Rattle.std.proofs.Common.{◌≡◌, drop}
use Rattle.request_sections.specs.Lives.{end_moment}
use Rattle.request_sections.proofs.lives.end_moment.Given as goal

-- none so far
abbrev pub invariant-loop-event : goal.invariant-loop-event
invariant-loop-event l = end_moment l.quoted (drop l.event-index l.events) ≡ end_moment l.quoted l.events
