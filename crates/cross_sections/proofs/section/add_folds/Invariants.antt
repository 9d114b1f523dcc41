use Rattle.std.proofs.Common.{◌≡◌, ◌-◌, length}
use Rattle.page_text.specs.Parts.{with_parts}
use Rattle.day_tables.specs.Parts.{each_from}
use Rattle.day_sections.specs.Folds.{folded, folds_200}
use Rattle.cross_sections.specs.Section.{setting_of, table_parts}
use Rattle.cross_sections.proofs.section.add_folds.Given as goal

-- the parts so far, and then those of the other folds, are all
abbrev pub invariant-loop-number : goal.invariant-loop-number
invariant-loop-number l = with_parts l.page (each_from (folded (table_parts (setting_of l.form)) l.crosses) l.number (folds_200 (length l.crosses) - l.number)) ≡ with_parts l.fn.page (each_from (folded (table_parts (setting_of l.form)) l.crosses) 0 (folds_200 (length l.crosses)))
