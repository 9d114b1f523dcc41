use Rattle.std.proofs.Common.{ℕ, ◌≤◌, ◌∙◌, ap, arith, List}
use Rattle.std.proofs.lemmas.Result.{on_ok_weaker}
use Rattle.page_text.specs.Parts.{Part, with_parts}
use Rattle.chart_axes.specs.Ticks.{multiple}
use Rattle.chart_axes.proofs.Labels.{time_shown}
use Rattle.chart_axes.proofs.ticks.add_time_at.Goals as goal

pub returns : goal.returns
returns c =
    let low : c.multiple-ms.result ≤ c.args.scale.now.last = omega (arith, c.if-ms-from.false, c.from.ensures, c.ms-2.ensures.value) in
    on_ok_weaker c.add_time.result
    (λ e. e ∙ ap (λ (ps : List Part). with_parts c.args.page.now ps)
    (time_shown c.args.scale.now c.args.span c.args.place c.multiple-ms.result c.moment_at-moment.result c.deref.result.now (c.multiple-ms.ensures ∙ ap (λ (n : ℕ). multiple c.args.span n c.args.place) c.ms.ensures.value) low c.moment_at-moment.ensures (c.deref.ensures.value ∙ c.in_ok-text.ensures)))
    c.add_time.ensures
