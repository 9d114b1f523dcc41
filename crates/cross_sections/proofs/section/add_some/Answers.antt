use Rattle.std.proofs.Common.{◌∷◌, [], ◌∙◌, ap, List, length}
use Rattle.std.proofs.lemmas.Result.{on_ok_weaker}
use Rattle.std.specs.Prelude.{take}
use Rattle.page_text.specs.Parts.{with_part, with_parts}
use Rattle.cross_sections.specs.declared.crossed.Crossed.{Crossed}
use Rattle.cross_sections.specs.declared.template.TheConstants.{CROSSES}
use Rattle.day_sections.specs.Folds.{most_folded, whole_or_folded}
use Rattle.cross_sections.specs.Section.{count_part, end_part, setting_of, table_parts}
use Rattle.day_sections.proofs.Walks.{in_frame}
use Rattle.cross_sections.proofs.section.add_some.Goals as goal

pub returns : goal.returns
returns c =
    let a = c.args in
    let parts = λ (l : List Crossed). whole_or_folded (table_parts (setting_of a.form.now)) l in
    on_ok_weaker c.add_end.result
    (in_frame a.page.now c.add.new.self c.add_listed.new.page c.add_end.new.page (count_part a.crosses.now) (parts (take most_folded a.crosses.now)) (end_part (length a.crosses.now))
    (c.in_ok-add.ensures.added ∙ (λ j. with_part a.page.now (record { template = CROSSES.now; values = (c.deref.ensures.value ∙ c.in_ok-count.ensures) j ∷ [] })))
    (c.in_ok-add_listed.ensures ∙ ap (λ (l : List Crossed). with_parts c.add.new.self (parts l)) c.up_to.ensures))
    c.add_end.ensures
