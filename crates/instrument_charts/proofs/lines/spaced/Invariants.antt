use Rattle.std.proofs.Common.{◌≡◌, ◌++◌, drop}
use Rattle.std.specs.Prelude.{None}
use Rattle.instrument_charts.specs.Lines.{spaced}
use Rattle.instrument_charts.proofs.lines.spaced.Given as goal

-- those that were kept, and then those of the others, are all
abbrev pub invariant-loop-point : goal.invariant-loop-point
invariant-loop-point l = l.kept.items ++ spaced l.scale l.before (drop l.point-index l.points) ≡ spaced l.scale None l.points
