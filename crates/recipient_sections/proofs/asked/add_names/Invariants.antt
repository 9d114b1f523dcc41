use Rattle.std.proofs.Common.{◌≡◌, drop}
use Rattle.std.specs.List.{flat_map}
use Rattle.page_text.specs.Parts.{with_parts}
use Rattle.recipient_sections.specs.Asked.{name_parts}
use Rattle.recipient_sections.proofs.asked.add_names.Given as goal

-- the parts so far, and then those of the others, are all
abbrev pub invariant-loop-event : goal.invariant-loop-event
invariant-loop-event l = with_parts l.page (flat_map (name_parts l.participants) (drop l.event-index l.asked)) ≡ with_parts l.fn.page (flat_map (name_parts l.participants) l.asked)
