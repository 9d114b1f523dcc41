use Rattle.std.proofs.Common.{◌≡◌, ◌∷◌, [], ◌∙◌, ℕ, ℤ, ap}
use Rattle.std.proofs.lemmas.Result.{on_ok_weaker}
use Rattle.std.specs.Prelude.{decimal}
use Rattle.page_text.specs.Parts.{with_part}
use Rattle.instruments.specs.Listing.{tick_of}
use Rattle.day_tables.specs.declared.template.TheConstants.{TRADED}
use Rattle.day_tables.specs.Values.{grouped, price_in}
use Rattle.day_tables.proofs.bulletin.add_span.Goals as goal

pub returns : goal.returns
returns c =
    let ticked : (p : ℤ) → price_in c.tick_at-tick.result p ≡ price_in (tick_of c.args.instruments.now c.args.instrument) p = λ p. ap (λ (tick : ℕ). price_in tick p) c.tick_at-tick.ensures in
    on_ok_weaker c.add.result
    (λ e. e ∙ (λ j. with_part c.args.page.now (record {
      template = TRADED.now;
      values = (c.deref.ensures.value ∙ (c.in_ok-place.ensures ∙ ap decimal c.from.ensures)) j ∷ c.symbol_at.ensures j ∷ (c.deref-2.ensures.value ∙ (c.in_ok-open.ensures ∙ ticked c.args.span.now.first)) j ∷ (c.deref-3.ensures.value ∙ (c.in_ok-high.ensures ∙ ticked c.args.span.now.high)) j ∷ (c.deref-4.ensures.value ∙ (c.in_ok-low.ensures ∙ ticked c.args.span.now.low)) j ∷ (c.deref-5.ensures.value ∙ (c.in_ok-last.ensures ∙ ticked c.args.span.now.last)) j
          ∷ (c.deref-6.ensures.value ∙ (c.in_ok-volume.ensures ∙ ap grouped c.quantity.ensures)) j ∷ (c.deref-7.ensures.value ∙ (c.in_ok-in_book.ensures ∙ ap grouped c.quantity-2.ensures)) j ∷ (c.deref-8.ensures.value ∙ (c.in_ok-in_requests.ensures ∙ ap grouped c.quantity-3.ensures)) j
          ∷ (c.deref-9.ensures.value ∙ (c.in_ok-count.ensures ∙ ap grouped c.number.ensures)) j ∷ (c.deref-10.ensures.value ∙ (c.in_ok-of_book.ensures ∙ ap grouped c.number-2.ensures)) j ∷ (c.deref-11.ensures.value ∙ (c.in_ok-of_requests.ensures ∙ ap grouped c.number-3.ensures)) j ∷ [];
    })))
    c.add.ensures.added
