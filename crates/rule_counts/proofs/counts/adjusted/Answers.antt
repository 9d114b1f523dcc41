use Rattle.std.proofs.Common.{◌≡◌, ◌+◌, ◌<◌, ◌≤◌, ◌∙◌, ℕ, Bool, arith, ap, length, subst}
use Rattle.rule_counts.specs.Counts.{adjusted, is_adjusted, one_if}
use Rattle.rule_counts.proofs.Adjusted.{counted_on, counted_out}
use Rattle.rule_counts.proofs.counts.adjusted.Goals as goal

pub loop-instrument-preserved : goal.loop-instrument-preserved
loop-instrument-preserved c = (
  counted_on c.args.instruments.now c.loop-instrument.instrument (length c.args.instruments.now) c.loop-instrument.count _ (adjusted c.args.instruments.now)
      (subst (λ (k : ℕ). c.loop-instrument.instrument < k) c.len-instrument-end.ensures.count c.loop-instrument-test.true)
      (ap (λ (n : ℕ). c.loop-instrument.count + n) (c.one_if-count.ensures.result ∙ (ap one_if c.is_adjusted.ensures ∙ ap (λ (d : ℕ). one_if (is_adjusted d)) c.delay.ensures.delay))) c.loop-instrument.invariant.0,
  omega (arith, c.loop-instrument.invariant.1, c.one_if-count.ensures.few),
)

pub returns : goal.returns
returns c =
    counted_out c.args.instruments.now c.loop-instrument.instrument (length c.args.instruments.now) c.loop-instrument.count (adjusted c.args.instruments.now)
    (subst (λ (k : ℕ). k ≤ c.loop-instrument.instrument) c.len-instrument-end.ensures.count c.loop-instrument-test.false) c.loop-instrument.invariant.0
