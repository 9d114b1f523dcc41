use Rattle.std.proofs.Common.{◌≡◌, drop}
use Rattle.std.specs.List.{flat_map}
use Rattle.page_text.specs.Parts.{with_parts}
use Rattle.cross_sections.specs.Section.{line_parts, setting_of}
use Rattle.cross_sections.proofs.section.add_each.Given as goal

-- the parts so far, and then those of the others, are all
abbrev pub invariant-loop-cross : goal.invariant-loop-cross
invariant-loop-cross l = with_parts l.page (flat_map (line_parts (setting_of l.form)) (drop l.cross-index l.crosses)) ≡ with_parts l.fn.page (flat_map (line_parts (setting_of l.form)) l.crosses)
