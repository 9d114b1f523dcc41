use Rattle.std.proofs.Common.{◌∷◌, [], ◌∙◌, ap}
use Rattle.std.proofs.lemmas.Result.{on_ok_weaker}
use Rattle.page_text.specs.Parts.{with_part}
use Rattle.day_tables.specs.Values.{grouped}
use Rattle.instrument_charts.specs.declared.template.TheConstants.{LEVEL}
use Rattle.instrument_charts.proofs.ladder.add_level.Goals as goal

pub returns : goal.returns
returns c =
    on_ok_weaker c.add.result
    (λ e. e ∙ (λ j. with_part c.args.page.now (record {
      template = LEVEL.now;
      values = c.quoted_side.ensures j ∷ (c.deref.ensures.value ∙ c.in_ok-price.ensures) j ∷ (c.deref-2.ensures.value ∙ (c.in_ok-quantity.ensures ∙ ap grouped c.quantity_at.ensures)) j
          ∷ (c.deref-3.ensures.value ∙ (c.in_ok-orders.ensures ∙ ap grouped c.orders_at.ensures)) j ∷ (c.deref-4.ensures.value ∙ c.in_ok-order.ensures) j ∷ [];
    })))
    c.add.ensures.added
