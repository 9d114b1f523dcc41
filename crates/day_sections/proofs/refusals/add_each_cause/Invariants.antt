use Rattle.std.proofs.Common.{◌≡◌, drop}
use Rattle.std.specs.List.{flat_map}
use Rattle.page_text.specs.Parts.{with_parts}
use Rattle.day_sections.specs.Refusals.{cause_parts}
use Rattle.day_sections.proofs.refusals.add_each_cause.Given as goal

-- the parts so far, and then those of the others, are all
abbrev pub invariant-loop-cause : goal.invariant-loop-cause
invariant-loop-cause l = with_parts l.page (flat_map (cause_parts l.participants l.linked l.events) (drop l.cause-index l.causes)) ≡ with_parts l.fn.page (flat_map (cause_parts l.participants l.linked l.events) l.causes)
