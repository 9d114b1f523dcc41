use Rattle.std.proofs.Common.{◌∙◌, ap, sym, Option}
use Rattle.std.proofs.lemmas.Result.{on_ok_weaker}
use Rattle.page_text.specs.Parts.{with_parts}
use Rattle.chart_axes.specs.declared.range.Range.{Range}
use Rattle.instrument_charts.specs.Glyphs.{range_or_none}
use Rattle.instrument_charts.proofs.glyphs.add_part.Goals as goal

pub returns-in-Some : goal.returns-in-Some
returns-in-Some c =
    on_ok_weaker c.add_range.result
    (λ e. e ∙ ap (λ (o : Option Range). with_parts c.args.page.now (range_or_none c.args.scale.now c.args.part o)) (sym c.in-Some.is))
    c.add_range.ensures
