use Rattle.std.proofs.Common.{◌≡◌, ◌++◌, drop}
use Rattle.request_sections.specs.Refused.{refused_of}
use Rattle.request_sections.proofs.refused.append_refused.Given as goal

-- those that were kept, and then those of the others, are all
abbrev pub invariant-loop-event : goal.invariant-loop-event
invariant-loop-event l = l.kept.items ++ refused_of l.row l.id (drop l.event-index l.events) ≡ l.fn.kept.items ++ refused_of l.row l.id l.events
