use Rattle.std.proofs.Common.{◌≡◌, drop}
use Rattle.std.specs.List.{find}
use Rattle.chart_axes.specs.Ticks.{is_step}
use Rattle.chart_axes.proofs.ticks.first_step.Given as goal

-- what is found among the others is what is found among all
abbrev pub invariant-loop-step : goal.invariant-loop-step
invariant-loop-step l = find (is_step l.tick l.range) (drop l.step-index l.steps) ≡ find (is_step l.tick l.range) l.steps
