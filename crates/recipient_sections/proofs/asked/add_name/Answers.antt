use Rattle.std.proofs.Common.{◌∷◌, [], ◌∙◌}
use Rattle.std.proofs.lemmas.Result.{on_ok_weaker}
use Rattle.page_text.specs.Parts.{with_part}
use Rattle.recipient_sections.specs.declared.template.TheConstants.{NAME}
use Rattle.recipient_sections.proofs.asked.add_name.Goals as goal

pub returns : goal.returns
returns c =
    on_ok_weaker c.add.result
    (λ e. e ∙ (λ j. with_part c.args.page.now (record {
      template = NAME.now;
      values = c.name_at-name.ensures j ∷ [];
    })))
    c.add.ensures.added
