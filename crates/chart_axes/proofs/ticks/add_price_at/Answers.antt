use Rattle.std.proofs.Common.{ℕ, ◌∙◌, ap, List}
use Rattle.std.proofs.lemmas.Result.{on_ok_weaker}
use Rattle.page_text.specs.Parts.{Part, with_parts}
use Rattle.chart_axes.specs.Ticks.{multiple}
use Rattle.chart_axes.proofs.Labels.{price_shown}
use Rattle.chart_axes.proofs.ticks.add_price_at.Goals as goal

pub returns-then-above-from : goal.returns-then-above-from
returns-then-above-from c =
    on_ok_weaker c.add_price.result
    (λ e. e ∙ ap (λ (ps : List Part). with_parts c.args.page.now ps)
    (price_shown c.args.scale.now c.args.step c.args.place c.multiple-above.result c.from.result c.lowered.result (c.multiple-above.ensures ∙ ap (λ (low : ℕ). multiple c.args.step low c.args.place) c.raised.ensures.value) (c.from.ensures ∙ c.raised-2.ensures.value) c.if-above-from.true c.lowered.ensures))
    c.add_price.ensures
