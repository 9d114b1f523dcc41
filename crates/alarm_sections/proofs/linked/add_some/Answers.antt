use Rattle.std.proofs.Common.{◌∷◌, [], ◌∙◌, ap, List, length}
use Rattle.std.proofs.lemmas.Result.{on_ok_weaker}
use Rattle.std.specs.Prelude.{take}
use Rattle.page_text.specs.Parts.{with_part, with_parts}
use Rattle.surveillance.specs.declared.pairs.LinkedTrade.{LinkedTrade}
use Rattle.alarm_sections.specs.declared.template.TheConstants.{LINKED}
use Rattle.day_sections.specs.Folds.{most_folded, whole_or_folded}
use Rattle.alarm_sections.specs.Linked.{count_part, end_part, table_parts}
use Rattle.day_sections.proofs.Walks.{in_frame}
use Rattle.alarm_sections.proofs.linked.add_some.Goals as goal

pub returns : goal.returns
returns c =
    let a = c.args in
    let parts = λ (l : List LinkedTrade). whole_or_folded (table_parts a.lines.now.participants.now a.lines.now.shown a.lines.now.dated) l in
    on_ok_weaker c.add_end.result
    (in_frame a.page.now c.add.new.self c.add_listed.new.page c.add_end.new.page (count_part a.trades.now) (parts (take most_folded a.trades.now)) (end_part (length a.trades.now))
    (c.in_ok-add.ensures.added ∙ (λ j. with_part a.page.now (record { template = LINKED.now; values = (c.deref.ensures.value ∙ c.in_ok-count.ensures) j ∷ [] })))
    (c.in_ok-add_listed.ensures ∙ ap (λ (l : List LinkedTrade). with_parts c.add.new.self (parts l)) c.up_to.ensures))
    c.add_end.ensures
