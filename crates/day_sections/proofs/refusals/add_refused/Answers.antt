use Rattle.std.proofs.Common.{◌∷◌, [], ◌∙◌, ap, List, ℕ}
use Rattle.std.proofs.lemmas.Result.{on_ok_weaker}
use Rattle.page_text.specs.Parts.{with_part}
use Rattle.day_sections.specs.declared.template.TheConstants.{REFUSED}
use Rattle.day_sections.specs.Values.{row_part}
use Rattle.day_sections.proofs.refusals.add_refused.Goals as goal

pub returns : goal.returns
returns c =
    on_ok_weaker c.add_row_number.result
    (λ e. e ∙ ap (λ (x : List ℕ). with_part x (row_part c.args.linked c.args.event.now.at.row)) (c.in_ok-add.ensures.added ∙ (λ j. with_part c.args.page.now (record { template = REFUSED.now; values = c.name_at-name.ensures j ∷ [] }))))
    c.add_row_number.ensures
