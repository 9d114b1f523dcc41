use Rattle.std.proofs.Common.{◌≡◌, drop}
use Rattle.std.specs.List.{flat_map}
use Rattle.page_text.specs.Parts.{with_parts}
use Rattle.day_sections.specs.Trades.{fold_parts, sheet_of}
use Rattle.day_sections.proofs.trades.add_each_hour.Given as goal

-- the parts so far, and then those of the other hours, are all
abbrev pub invariant-loop-fold : goal.invariant-loop-fold
invariant-loop-fold l = with_parts l.page (flat_map (fold_parts (sheet_of l.reported) l.day.all.now l.day.listed.now) (drop l.fold-index l.day.folds.now)) ≡ with_parts l.fn.page (flat_map (fold_parts (sheet_of l.reported) l.day.all.now l.day.listed.now) l.day.folds.now)
