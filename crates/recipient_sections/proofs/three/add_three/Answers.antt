use Rattle.std.proofs.Common.{◌∷◌, [], ◌∙◌}
use Rattle.std.proofs.lemmas.Result.{on_ok_weaker}
use Rattle.page_text.specs.Parts.{with_part}
use Rattle.recipient_sections.specs.declared.template.TheConstants.{THREE}
use Rattle.recipient_sections.proofs.three.add_three.Goals as goal

pub returns : goal.returns
returns c =
    on_ok_weaker c.add.result
    (λ e. e ∙ (λ j. with_part c.args.page.now (record {
      template = THREE.now;
      values = c.name_at-first.ensures j ∷ c.name_at-second.ensures j ∷ c.name_at-third.ensures j ∷ c.sender_at-requester.ensures j ∷ [];
    })))
    c.add.ensures.added
