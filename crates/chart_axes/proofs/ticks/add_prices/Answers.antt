use Rattle.std.proofs.Common.{ℕ, ◌∙◌, ap}
use Rattle.std.proofs.lemmas.Result.{on_ok_weaker}
use Rattle.page_text.specs.Parts.{with_parts}
use Rattle.chart_axes.specs.Ticks.{prices_parts, steps_parts}
use Rattle.chart_axes.proofs.ticks.add_prices.Goals as goal

pub returns : goal.returns
unfolding prices_parts
returns c =
    on_ok_weaker c.add_steps.result
    (λ e. e ∙ ap (λ (step : ℕ). with_parts c.args.page.now (steps_parts c.args.scale.now step)) c.step_of-step.ensures)
    c.add_steps.ensures
