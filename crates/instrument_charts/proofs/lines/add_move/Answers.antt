use Rattle.std.proofs.Common.{◌∷◌, [], ◌∙◌, ap}
use Rattle.std.proofs.lemmas.Result.{on_ok_weaker}
use Rattle.std.specs.Prelude.{decimal}
use Rattle.page_text.specs.Parts.{with_part}
use Rattle.instrument_charts.specs.declared.template.TheConstants.{MOVE}
use Rattle.instrument_charts.proofs.lines.add_move.Goals as goal

pub returns : goal.returns
returns c =
    on_ok_weaker c.add.result
    (λ e. e ∙ (λ j. with_part c.args.page.now (record {
      template = MOVE.now;
      values = (c.deref.ensures.value ∙ (c.in_ok-x.ensures ∙ ap decimal c.across.ensures)) j ∷ (c.deref-2.ensures.value ∙ c.in_ok-y.ensures) j ∷ [];
    })))
    c.add.ensures.added
