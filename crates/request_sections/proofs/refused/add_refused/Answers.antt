use Rattle.std.proofs.Common.{◌∙◌, ap, List, ℕ}
use Rattle.std.proofs.lemmas.Result.{on_ok_weaker}
use Rattle.page_text.specs.Parts.{with_part}
use Rattle.day_tables.specs.Parts.{plain_part}
use Rattle.day_sections.specs.Values.{row_part}
use Rattle.request_sections.specs.declared.template.TheConstants.{REFUSED_END}
use Rattle.request_sections.proofs.refused.add_refused.Goals as goal

pub returns : goal.returns
returns c =
    on_ok_weaker c.add.result
    (λ e. e ∙ ap (λ (x : List ℕ). with_part x (plain_part REFUSED_END.now)) (c.in_ok-add_row_number.ensures ∙ ap (λ (x : List ℕ). with_part x (row_part c.args.linked c.args.event.now.at.row)) c.in_ok-add_cause.ensures))
    c.add.ensures.added
