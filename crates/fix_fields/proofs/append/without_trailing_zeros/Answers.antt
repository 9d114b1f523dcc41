use Rattle.std.proofs.Common.{◌≡◌, arith, sym, ◌∙◌}
use Rattle.fix_fields.proofs.PrintLemmas.{trailing_zero, last_not_zero}
use Rattle.fix_fields.proofs.append.without_trailing_zeros.Goals as goal
use Rattle.fix_fields.proofs.append.without_trailing_zeros.Goals.{then-loop-kept-test+else-digits-kept-eq48, else-loop-kept-test}

pub loop-kept-preserved : goal.loop-kept-preserved
loop-kept-preserved c = record {
  within = omega arith;
  same = trailing_zero c.args.digits.now c.loop-kept.kept c.loop-kept-test.true c.loop-kept.invariant.within c.if-digits-kept-eq48.true ∙ c.loop-kept.invariant.same;
}

pub returns : goal.returns
returns c =
    elim c.loop-kept-test.branch [
      | then-loop-kept-test+else-digits-kept-eq48 w ↦ sym (last_not_zero c.args.digits.now c.loop-kept.kept w.loop-kept-test.true c.loop-kept.invariant.within w.if-digits-kept-eq48.false) ∙ c.loop-kept.invariant.same
      | else-loop-kept-test w ↦
          let none : c.loop-kept.kept ≡ 0 = omega arith in
          rw none (rw none at c.loop-kept.invariant.same)
    ]
