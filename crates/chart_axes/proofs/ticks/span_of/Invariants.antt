use Rattle.std.proofs.Common.{◌≡◌, drop}
use Rattle.std.specs.List.{find}
use Rattle.chart_axes.specs.Ticks.{is_span}
use Rattle.chart_axes.proofs.ticks.span_of.Given as goal

-- what is found among the others is what is found among all
abbrev pub invariant-loop-span : goal.invariant-loop-span
invariant-loop-span l = find (is_span l.scale) (drop l.span-index l.spans) ≡ find (is_span l.scale) l.spans
