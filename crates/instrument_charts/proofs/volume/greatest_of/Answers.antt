use Rattle.std.proofs.Common.{ℕ, ◌≡◌, ◌-◌, ◌∙◌, ap, arith}
use Rattle.instrument_charts.specs.Volumes.{greatest_from, most_bars}
use Rattle.instrument_charts.proofs.Making.{greatest_on}
use Rattle.instrument_charts.proofs.volume.greatest_of.Goals as goal

pub loop-part-preserved : goal.loop-part-preserved
loop-part-preserved c = λ f h.
    greatest_on f c.loop-part.part c.loop-part.greatest c.max-greatest.result _ c.args.all.now c.loop-part-test.true (omega (arith, c.loop-part.auto.part)) h c.max-greatest.ensures (c.loop-part.invariant f h)

pub returns : goal.returns
returns c = λ f h.
    let done : c.loop-part.part ≡ 0 = omega (arith, c.loop-part-test.false) in
    c.loop-part.invariant f h ∙ ap (λ (k : ℕ). greatest_from f k (most_bars - k)) done
