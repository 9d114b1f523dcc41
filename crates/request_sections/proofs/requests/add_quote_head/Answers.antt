use Rattle.std.proofs.Common.{◌∷◌, [], ◌∙◌, ap, sym, List, ℕ, length}
use Rattle.std.proofs.lemmas.Result.{on_ok_weaker}
use Rattle.page_text.specs.Parts.{with_part, with_parts}
use Rattle.request_sections.specs.declared.template.TheConstants.{QUOTE}
use Rattle.day_tables.specs.Values.{clock_text}
use Rattle.request_sections.proofs.requests.add_quote_head.Goals as goal

pub returns : goal.returns
returns c =
    on_ok_weaker c.add.result
    (λ e. e ∙ (λ j. with_part c.args.page.now (record {
      template = QUOTE.now;
      values = (c.deref.ensures.value ∙ c.in_ok-number.ensures) j ∷ (c.deref-2.ensures.value ∙ c.in_ok-number.ensures) j ∷ c.sender_at-maker.ensures j ∷ (c.deref-3.ensures.value ∙ c.in_ok-id.ensures) j ∷ (c.deref-4.ensures.value ∙ c.in_ok-bid.ensures) j ∷ (c.deref-5.ensures.value ∙ c.in_ok-offer.ensures) j ∷ (c.clock_text.ensures ∙ ap (clock_text c.args.dated) c.print_utc-moment.ensures) j ∷ (c.clock_text-2.ensures ∙ ap (clock_text c.args.dated) c.print_utc-end.ensures) j ∷ [];
    })))
    c.add.ensures.added
