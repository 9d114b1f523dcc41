use Rattle.std.proofs.Common.{◌∷◌, [], ◌∙◌}
use Rattle.std.proofs.lemmas.Result.{on_ok_weaker}
use Rattle.page_text.specs.Parts.{with_part}
use Rattle.instrument_charts.specs.declared.template.TheConstants.{CHART}
use Rattle.instrument_charts.proofs.section.add_frame.Goals as goal

pub returns : goal.returns
returns c =
    on_ok_weaker c.add.result
    (λ e. e ∙ (λ j. with_part c.args.page.now (record { template = CHART.now; values = c.args.shown.now.symbol.now ∷ (c.deref.ensures.value ∙ c.in_ok-count.ensures) j ∷ [] })))
    c.add.ensures.added
