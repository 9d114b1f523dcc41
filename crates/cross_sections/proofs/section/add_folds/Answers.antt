use Rattle.std.proofs.Common.{◌<◌, ◌≤◌, ℕ, length, subst}
use Rattle.page_text.specs.Parts.{with_parts}
use Rattle.day_tables.specs.Parts.{each_from}
use Rattle.day_sections.specs.Folds.{folded, folds_200}
use Rattle.cross_sections.specs.Section.{setting_of, table_parts}
use Rattle.day_sections.proofs.Walks.{counts_on, counts_out}
use Rattle.cross_sections.proofs.section.add_folds.Goals as goal

pub loop-number-preserved : goal.loop-number-preserved
loop-number-preserved c =
    let a = c.args in
    let parts = folded (table_parts (setting_of a.form.now)) a.crosses.now in
    let n = folds_200 (length a.crosses.now) in
    counts_on parts c.loop-number.number n c.loop-number.page c.add_fold.new.page (with_parts a.page.now (each_from parts 0 n))
    (subst (λ (m : ℕ). c.loop-number.number < m) c.folds_200-number-end.ensures c.loop-number-test.true) c.in_ok-add_fold.ensures c.loop-number.invariant

pub returns : goal.returns
returns c =
    let a = c.args in
    let parts = folded (table_parts (setting_of a.form.now)) a.crosses.now in
    let n = folds_200 (length a.crosses.now) in
    counts_out parts c.loop-number.number n c.loop-number.page (with_parts a.page.now (each_from parts 0 n))
    (subst (λ (m : ℕ). m ≤ c.loop-number.number) c.folds_200-number-end.ensures c.loop-number-test.false) c.loop-number.invariant
