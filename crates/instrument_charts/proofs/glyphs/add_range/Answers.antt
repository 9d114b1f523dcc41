use Rattle.std.proofs.Common.{◌∷◌, [], ◌∙◌, ap}
use Rattle.std.proofs.lemmas.Result.{on_ok_weaker}
use Rattle.std.specs.Prelude.{decimal}
use Rattle.page_text.specs.Parts.{with_part}
use Rattle.instrument_charts.specs.declared.template.TheConstants.{RANGE}
use Rattle.instrument_charts.proofs.glyphs.add_range.Goals as goal

pub returns : goal.returns
returns c =
    on_ok_weaker c.add.result
    (λ e. e ∙ (λ j. with_part c.args.page.now (record {
      template = RANGE.now;
      values = (c.deref.ensures.value ∙ c.in_ok-x.ensures) j ∷ (c.deref-2.ensures.value ∙ (c.in_ok-high.ensures ∙ ap decimal c.down.ensures)) j ∷ (c.deref-3.ensures.value ∙ (c.in_ok-low.ensures ∙ ap decimal c.down-2.ensures)) j ∷ [];
    })))
    c.add.ensures.added
