use Rattle.std.proofs.Common.{◌∷◌, [], ◌∙◌}
use Rattle.std.proofs.lemmas.Result.{on_ok_weaker}
use Rattle.page_text.specs.Parts.{with_part}
use Rattle.cross_sections.specs.declared.template.TheConstants.{MORE_CROSSES}
use Rattle.cross_sections.proofs.section.add_more.Goals as goal

pub returns : goal.returns
returns c =
    on_ok_weaker c.add.result
    (λ e. e ∙ (λ j. with_part c.args.page.now (record {
      template = MORE_CROSSES.now;
      values = (c.deref.ensures.value ∙ c.in_ok-count.ensures) j ∷ [];
    })))
    c.add.ensures.added
