use Rattle.std.proofs.Common.{◌<◌, ℕ, arith, subst, sym}
use Rattle.instrument_charts.specs.Glyphs.{most_parts}
use Rattle.instrument_charts.proofs.Making.{part_below, ranges_on}
use Rattle.instrument_charts.proofs.glyphs.ranges_of.Goals as goal

pub loop-at-preserved : goal.loop-at-preserved
loop-at-preserved c =
    ranges_on c.args.scale.now c.args.deals.now c.loop-at.at c.part_of-part.result c.index-deals-at.result c.index.result.now c.covered.result c.loop-at.ranges.items
    c.loop-at-test.true (omega (arith, c.loop-at.auto.at, c.loop-at-test.true)) c.index-deals-at.is c.part_of-part.ensures
    (subst (λ (p : ℕ). p < most_parts) (sym c.part_of-part.ensures) (part_below c.args.scale.now c.index-deals-at.result.moment)) c.index.ensures c.covered.ensures c.loop-at.invariant
