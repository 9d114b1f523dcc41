use Rattle.std.proofs.Common.{◌∙◌, ap, List, length}
use Rattle.std.proofs.lemmas.Result.{on_ok_weaker}
use Rattle.page_text.specs.Parts.{with_part, with_parts}
use Rattle.cross_sections.specs.declared.crossed.Crossed.{Crossed}
use Rattle.day_sections.specs.Folds.{fold_end, fold_part, of_200}
use Rattle.cross_sections.specs.Section.{setting_of, table_parts}
use Rattle.day_sections.proofs.Walks.{in_frame}
use Rattle.cross_sections.proofs.section.add_fold.Goals as goal

pub returns : goal.returns
returns c =
    let a = c.args in
    let some = of_200 a.number a.crosses.now in
    on_ok_weaker c.add_fold_end.result
    (in_frame a.page.now c.add_fold_head.new.page c.add_table.new.page c.add_fold_end.new.page (fold_part a.number (length some)) (table_parts (setting_of a.form.now) some) fold_end
    (c.in_ok-add_fold_head.ensures ∙ ap (λ (l : List Crossed). with_part a.page.now (fold_part a.number (length l))) c.of_200-some.ensures)
    (c.in_ok-add_table.ensures ∙ ap (λ (l : List Crossed). with_parts c.add_fold_head.new.page (table_parts (setting_of a.form.now) l)) c.of_200-some.ensures))
    c.add_fold_end.ensures
