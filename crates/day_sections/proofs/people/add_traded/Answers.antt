use Rattle.std.proofs.Common.{◌∷◌, [], ◌∙◌, ap, ℕ}
use Rattle.std.proofs.lemmas.Result.{on_ok_weaker}
use Rattle.page_text.specs.Parts.{with_part}
use Rattle.day_sections.specs.declared.template.TheConstants.{PERSON_TRADES}
use Rattle.day_tables.specs.Values.{grouped}
use Rattle.day_sections.specs.People.{cancel_ratio, order_ratio}
use Rattle.day_sections.proofs.people.add_traded.Goals as goal

pub returns : goal.returns
returns c =
    let k = c.args.kept.now in
    on_ok_weaker c.add.result
    (λ e. e ∙ (λ j. with_part c.args.page.now (record {
      template = PERSON_TRADES.now;
      values = (c.deref.ensures.value ∙ (c.in_ok-cancels.ensures ∙ ap (λ (p : ℕ). cancel_ratio k.deeds.now p) c.of-who.ensures)) j
          ∷ (c.deref-2.ensures.value ∙ (c.in_ok-orders.ensures ∙ ap (λ (p : ℕ). order_ratio k.trades.now k.deeds.now p) c.of-who.ensures)) j
          ∷ (c.deref-3.ensures.value ∙ (c.in_ok-bought.ensures ∙ ap grouped c.bought_by.ensures)) j ∷ (c.deref-4.ensures.value ∙ (c.in_ok-sold.ensures ∙ ap grouped c.sold_by.ensures)) j ∷ (c.deref-5.ensures.value ∙ (c.in_ok-made.ensures ∙ ap grouped c.count_made.ensures)) j ∷ [];
    })))
    c.add.ensures.added
