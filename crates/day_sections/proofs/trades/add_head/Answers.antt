use Rattle.std.proofs.Common.{◌∷◌, [], ◌∙◌, ap}
use Rattle.std.proofs.lemmas.Result.{on_ok_weaker}
use Rattle.page_text.specs.Parts.{with_part}
use Rattle.day_sections.specs.declared.template.TheConstants.{TRADE}
use Rattle.std.specs.Prelude.{decimal}
use Rattle.day_sections.proofs.trades.add_head.Goals as goal

pub returns : goal.returns
returns c =
    on_ok_weaker c.add.result
    (λ e. e ∙ (λ j. with_part c.args.page.now (record {
      template = TRADE.now;
      values = (c.deref.ensures.value ∙ c.in_ok-number.ensures) j ∷ (c.deref-2.ensures.value ∙ c.in_ok-number.ensures) j ∷ (c.deref-3.ensures.value ∙ c.in_ok-time.ensures) j ∷ (c.deref-4.ensures.value ∙ (c.in_ok-instrument.ensures ∙ ap decimal c.from.ensures)) j ∷ c.symbol_at-symbol.ensures j ∷ [];
    })))
    c.add.ensures.added
