use Rattle.std.proofs.Common.{◌≡◌, drop}
use Rattle.std.specs.List.{flat_map}
use Rattle.page_text.specs.Parts.{with_parts}
use Rattle.request_sections.specs.Refused.{refused_parts}
use Rattle.request_sections.proofs.refused.add_each_refused.Given as goal

-- the parts so far, and then those of the others, are all
abbrev pub invariant-loop-event : goal.invariant-loop-event
invariant-loop-event l = with_parts l.page (flat_map (refused_parts l.participants l.dated l.linked) (drop l.event-index l.events)) ≡ with_parts l.fn.page (flat_map (refused_parts l.participants l.dated l.linked) l.events)
