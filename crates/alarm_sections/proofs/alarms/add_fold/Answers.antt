use Rattle.std.proofs.Common.{◌∙◌, ap, List, length}
use Rattle.std.proofs.lemmas.Result.{on_ok_weaker}
use Rattle.page_text.specs.Parts.{with_part, with_parts}
use Rattle.surveillance.specs.declared.alarm.Alarm.{Alarm}
use Rattle.day_sections.specs.Folds.{fold_end, fold_part, of_200}
use Rattle.alarm_sections.specs.Alarms.{table_parts}
use Rattle.day_sections.proofs.Walks.{in_frame}
use Rattle.alarm_sections.proofs.alarms.add_fold.Goals as goal

pub returns : goal.returns
returns c =
    let a = c.args in
    let some = of_200 a.number a.alarms.now in
    on_ok_weaker c.add_fold_end.result
    (in_frame a.page.now c.add_fold_head.new.page c.add_table.new.page c.add_fold_end.new.page (fold_part a.number (length some)) (table_parts a.participants.now a.linked some) fold_end
    (c.in_ok-add_fold_head.ensures ∙ ap (λ (l : List Alarm). with_part a.page.now (fold_part a.number (length l))) c.of_200-some.ensures)
    (c.in_ok-add_table.ensures ∙ ap (λ (l : List Alarm). with_parts c.add_fold_head.new.page (table_parts a.participants.now a.linked l)) c.of_200-some.ensures))
    c.add_fold_end.ensures
