use Rattle.std.proofs.Common.{◌∷◌, [], ◌∙◌, ap}
use Rattle.std.proofs.lemmas.Result.{on_ok_weaker}
use Rattle.std.specs.Prelude.{decimal}
use Rattle.page_text.specs.Parts.{with_part}
use Rattle.chart_axes.specs.declared.template.TheConstants.{PRICE_TICK}
use Rattle.chart_axes.proofs.ticks.add_price.Goals as goal

pub returns : goal.returns
returns c =
    on_ok_weaker c.add.result
    (λ e. e ∙ (λ j. with_part c.args.page.now (record {
      template = PRICE_TICK.now;
      values = (c.deref.ensures.value ∙ (c.in_ok-y.ensures ∙ ap decimal c.down.ensures)) j ∷ (c.deref-2.ensures.value ∙ c.in_ok-price.ensures) j ∷ [];
    })))
    c.add.ensures.added
