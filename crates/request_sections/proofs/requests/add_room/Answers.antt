use Rattle.std.proofs.Common.{◌∷◌, [], ◌∙◌, ap, sym, List, ℕ, length}
use Rattle.std.proofs.lemmas.Result.{on_ok_weaker}
use Rattle.page_text.specs.Parts.{with_part, with_parts}
use Rattle.request_sections.specs.declared.template.TheConstants.{ROOM}
use Rattle.day_tables.specs.Values.{clock_text, grouped}
use Rattle.request_sections.proofs.requests.add_room.Goals as goal

pub returns : goal.returns
returns c =
    on_ok_weaker c.add.result
    (λ e. e ∙ (λ j. with_part c.args.page.now (record {
      template = ROOM.now;
      values = (c.deref.ensures.value ∙ c.in_ok-room.ensures) j ∷ (c.clock_text.ensures ∙ ap (clock_text c.args.dated) c.print_utc-moment.ensures) j ∷ c.sender_at.ensures j ∷ (c.deref-2.ensures.value ∙ c.in_ok-count.ensures) j ∷ (c.deref-3.ensures.value ∙ c.in_ok-side.ensures) j ∷ (c.deref-4.ensures.value ∙ (c.in_ok-quantity.ensures ∙ ap grouped c.get.ensures.value)) j ∷ (c.deref-5.ensures.value ∙ c.in_ok-symbol.ensures) j ∷ (c.deref-6.ensures.value ∙ c.in_ok-id.ensures) j ∷ [];
    })))
    c.add.ensures.added
