use Rattle.std.proofs.Common.{◌≡◌, drop}
use Rattle.std.specs.List.{find}
use Rattle.chart_axes.specs.Ticks.{is_few}
use Rattle.chart_axes.proofs.ticks.first_few.Given as goal

-- what is found among the others is what is found among all
abbrev pub invariant-loop-step : goal.invariant-loop-step
invariant-loop-step l = find (is_few l.range) (drop l.step-index l.steps) ≡ find (is_few l.range) l.steps
