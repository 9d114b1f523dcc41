use Rattle.std.proofs.Common.{◌≡◌, ◌-◌, length}
use Rattle.page_text.specs.Parts.{with_parts}
use Rattle.day_tables.specs.Parts.{each_from}
use Rattle.day_sections.specs.Folds.{folded, folds_200}
use Rattle.alarm_sections.specs.Linked.{table_parts}
use Rattle.alarm_sections.proofs.linked.add_folds.Given as goal

-- the parts so far, and then those of the other folds, are all
abbrev pub invariant-loop-number : goal.invariant-loop-number
invariant-loop-number l = with_parts l.page (each_from (folded (table_parts l.lines.participants.now l.lines.shown l.lines.dated) l.trades) l.number (folds_200 (length l.trades) - l.number)) ≡ with_parts l.fn.page (each_from (folded (table_parts l.lines.participants.now l.lines.shown l.lines.dated) l.trades) 0 (folds_200 (length l.trades)))
