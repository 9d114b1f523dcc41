use Rattle.std.proofs.Common.{ℕ, ◌∙◌, ap, List}
use Rattle.std.proofs.lemmas.Result.{on_ok_weaker}
use Rattle.page_text.specs.Parts.{with_part}
use Rattle.chart_axes.specs.Ticks.{time_part}
use Rattle.chart_axes.proofs.ticks.add_end.Goals as goal

pub returns : goal.returns
returns c =
    on_ok_weaker c.add_time.result
    (λ e. e ∙ ap (λ (text : List ℕ). with_part c.args.page.now (time_part c.args.scale.now c.args.anchor.now c.args.moment text)) (c.deref.ensures.value ∙ c.in_ok-text.ensures))
    c.add_time.ensures
