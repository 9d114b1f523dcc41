use Rattle.std.proofs.Common.{◌≡◌, drop}
use Rattle.request_sections.specs.Fate.{end_in}
use Rattle.request_sections.proofs.fate.end_in.Given as goal

-- nobody ended it so far
abbrev pub invariant-loop-event : goal.invariant-loop-event
invariant-loop-event l = end_in l.quoted (drop l.event-index l.events) ≡ end_in l.quoted l.events
