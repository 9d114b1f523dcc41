use Rattle.std.proofs.Common.{◌∷◌, [], ◌∙◌, ap, sym, List, ℕ, length}
use Rattle.std.proofs.lemmas.Result.{on_ok_weaker}
use Rattle.page_text.specs.Parts.{with_part, with_parts}
use Rattle.request_sections.specs.declared.template.TheConstants.{ROOM_TRADED_ALONE}
use Rattle.request_sections.proofs.requests.add_trade_alone.Goals as goal

pub returns : goal.returns
returns c =
    on_ok_weaker c.add.result
    (λ e. e ∙ (λ j. with_part c.args.page.now (record {
      template = ROOM_TRADED_ALONE.now;
      values = (c.deref.ensures.value ∙ c.in_ok-number.ensures) j ∷ (c.deref-2.ensures.value ∙ c.in_ok-price.ensures) j ∷ [];
    })))
    c.add.ensures.added
