use Rattle.std.proofs.Common.{◌∷◌, [], ◌∙◌}
use Rattle.std.proofs.lemmas.Result.{on_ok_weaker}
use Rattle.page_text.specs.Parts.{with_part}
use Rattle.day_sections.proofs.trades.add_linked.Goals as goal

pub returns : goal.returns
returns c =
    on_ok_weaker c.add.result
    (λ e. e ∙ (λ j. with_part c.args.page.now (record {
      template = c.args.template.now;
      values = (c.deref.ensures.value ∙ c.in_ok-number.ensures) j ∷ [];
    })))
    c.add.ensures.added
