use Rattle.std.proofs.Common.{◌∷◌, [], ◌∙◌, ap, List, length}
use Rattle.std.proofs.lemmas.Result.{on_ok_weaker}
use Rattle.page_text.specs.Parts.{with_part}
use Rattle.day_sections.specs.declared.template.TheConstants.{FIGURES}
use Rattle.day_events.specs.declared.event.Event.{Event}
use Rattle.day_tables.specs.Values.{grouped}
use Rattle.day_sections.proofs.figures.add_figures.Goals as goal

pub returns : goal.returns
returns c =
    on_ok_weaker c.add.result
    (λ e. e ∙ (λ j. with_part c.args.page.now (record {
      template = FIGURES.now;
      values = (c.deref-2.ensures.value ∙ (c.in_ok-messages.ensures ∙ ap grouped c.count_sent.ensures)) j ∷ (c.deref-3.ensures.value ∙ (c.in_ok-people.ensures ∙ ap grouped c.len.ensures.count)) j ∷ (c.deref-4.ensures.value ∙ c.in_ok-all.ensures) j
          ∷ (c.deref-5.ensures.value ∙ (c.in_ok-orders.ensures ∙ ap grouped c.count.ensures)) j
          ∷ (c.deref-6.ensures.value ∙ c.in_ok-traded.ensures) j ∷ (c.deref-7.ensures.value ∙ (c.in_ok-of_book.ensures ∙ ap grouped c.number.ensures)) j ∷ (c.deref-8.ensures.value ∙ (c.in_ok-of_requests.ensures ∙ ap grouped c.number-2.ensures)) j
          ∷ (c.deref-9.ensures.value ∙ (c.in_ok-volume.ensures ∙ ap grouped c.quantity.ensures)) j ∷ (c.deref-10.ensures.value ∙ (c.in_ok-in_book.ensures ∙ ap grouped c.quantity-2.ensures)) j ∷ (c.deref-11.ensures.value ∙ (c.in_ok-in_requests.ensures ∙ ap grouped c.quantity-3.ensures)) j
          ∷ (c.deref-12.ensures.value ∙ (c.in_ok-requests.ensures ∙ ap grouped (c.many.ensures ∙ ap (λ (l : List Event). length l) (c.deref.ensures.value ∙ c.in_ok-asked.ensures)))) j ∷ (c.deref-13.ensures.value ∙ (c.in_ok-quotes.ensures ∙ ap grouped c.count-2.ensures)) j ∷ (c.deref-14.ensures.value ∙ (c.in_ok-hits.ensures ∙ ap grouped c.count-3.ensures)) j
          ∷ (c.deref-15.ensures.value ∙ (c.in_ok-refusals.ensures ∙ ap grouped c.count-4.ensures)) j ∷ [];
    })))
    c.add.ensures.added
