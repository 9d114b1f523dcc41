use Rattle.std.proofs.Common.{◌≡◌, ◌++◌, drop}
use Rattle.std.specs.List.{filter_map}
use Rattle.instrument_charts.specs.Lines.{point_at}
use Rattle.instrument_charts.proofs.lines.points_in.Given as goal

-- those that were made, and then those of the others, are all
abbrev pub invariant-loop-best : goal.invariant-loop-best
invariant-loop-best l = l.points.items ++ filter_map (point_at l.instrument l.side) (drop l.best-index l.bests) ≡ filter_map (point_at l.instrument l.side) l.bests
