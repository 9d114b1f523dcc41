use Rattle.std.proofs.Common.{drop}
use Rattle.std.specs.Prelude.{None}
use Rattle.instrument_charts.specs.Glyphs.{most_parts, range_in}
use Rattle.instrument_charts.specs.Values.{HasEach}
use Rattle.instrument_charts.proofs.glyphs.ranges_of.Given as goal

abbrev pub invariant-loop-at : goal.invariant-loop-at
invariant-loop-at l = HasEach None (λ k. range_in l.scale k (drop l.at l.deals)) most_parts l.ranges.items
