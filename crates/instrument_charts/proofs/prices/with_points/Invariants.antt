use Rattle.std.proofs.Common.{◌≡◌, drop}
use Rattle.instrument_charts.specs.Prices.{with_points}
use Rattle.instrument_charts.proofs.prices.with_points.Given as goal

abbrev pub invariant-loop-at : goal.invariant-loop-at
invariant-loop-at l = l.range ≡ with_points l.tick l.traded l.fn.others (drop l.at l.points)
