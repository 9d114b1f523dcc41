use Rattle.std.proofs.Common.{◌≡◌, ◌+◌, ◌<◌, ◌∙◌, ℕ, ap, arith, drop, subst, sym}
use Rattle.instrument_charts.specs.Values.{HasEach}
use Rattle.instrument_charts.specs.Volumes.{counted, most_bars, volume_in}
use Rattle.instrument_charts.proofs.Making.{bar_below, volumes_bound, volumes_on}
use Rattle.instrument_charts.proofs.volume.volume_of.Goals as goal

pub loop-at-preserved : goal.loop-at-preserved
loop-at-preserved c =
    let low : c.part_of-part.result < most_bars = subst (λ (p : ℕ). p < most_bars) (sym c.part_of-part.ensures) (bar_below c.args.scale.now c.index-deals-at.result.moment) in
    let has = c.loop-at.invariant.0 in (
      volumes_on c.args.scale.now c.args.requests c.args.deals.now c.loop-at.at c.part_of-part.result c.index-deals-at.result c.index_mut.result.now (c.index_mut.result.now + c.from.result) c.loop-at.made.items
          c.loop-at-test.true (omega (arith, c.loop-at.auto.at, c.loop-at-test.true)) c.index-deals-at.is c.part_of-part.ensures low c.index_mut.ensures.value
          (ap (λ (n : ℕ). c.index_mut.result.now + n) (c.from.ensures ∙ c.counted.ensures)) has,
      volumes_bound c.args.deals.now c.loop-at.at c.part_of-part.result c.index_mut.result.now c.from.result c.loop-at.made.items
          c.loop-at-test.true (omega (arith, c.from.ensures, c.counted.type_inv)) c.index_mut.ensures.value has.0 low c.loop-at.invariant.1,
    )

pub returns : goal.returns
returns c =
    let done : c.loop-at.at ≡ 0 = omega (arith, c.loop-at-test.false) in
    subst (λ (n : ℕ). HasEach 0 (volume_in c.args.scale.now c.args.requests (drop n c.args.deals.now)) most_bars c.loop-at.made.items) done c.loop-at.invariant.0
