use Rattle.std.proofs.Common.{◌∷◌, [], ◌∙◌, ap, ℕ}
use Rattle.std.proofs.lemmas.Result.{on_ok_weaker}
use Rattle.page_text.specs.Parts.{with_part}
use Rattle.day_sections.specs.declared.template.TheConstants.{DEAL}
use Rattle.day_tables.specs.Values.{grouped, price_in}
use Rattle.day_sections.proofs.trades.add_deal.Goals as goal

pub returns : goal.returns
returns c =
    on_ok_weaker c.add.result
    (λ e. e ∙ (λ j. with_part c.args.page.now (record {
      template = DEAL.now;
      values = (c.deref.ensures.value ∙ (c.in_ok-quantity.ensures ∙ ap grouped c.get.ensures.value)) j ∷ (c.deref-2.ensures.value ∙ (c.in_ok-price.ensures ∙ ap (λ (n : ℕ). price_in n c.args.trade.now.price) c.tick_at-tick.ensures)) j ∷ c.name_at-buyer.ensures j ∷ c.name_at-seller.ensures j ∷ [];
    })))
    c.add.ensures.added
