use Rattle.std.proofs.Common.{◌∷◌, [], ◌∙◌}
use Rattle.std.proofs.lemmas.Result.{on_ok_weaker}
use Rattle.page_text.specs.Parts.{with_part}
use Rattle.recipient_sections.specs.declared.template.TheConstants.{RELATED_PAIR}
use Rattle.recipient_sections.proofs.three.add_pair.Goals as goal

pub returns : goal.returns
returns c =
    on_ok_weaker c.add.result
    (λ e. e ∙ (λ j. with_part c.args.page.now (record { template = RELATED_PAIR.now; values = c.name_at-one.ensures j ∷ c.name_at-other.ensures j ∷ [] })))
    c.add.ensures.added
