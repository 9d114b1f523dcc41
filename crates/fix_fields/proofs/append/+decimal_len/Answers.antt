use Rattle.std.proofs.Common.{◌+◌, arith, ap, sym, ◌∙◌, ℕ}
use Rattle.fix_fields.proofs.DecimalLemmas.{length_last_four, decimal_short}
use Rattle.fix_fields.proofs.append.+decimal_len.Goals as goal

pub returns-clause-exact : goal.returns-clause-exact
returns-clause-exact t c = ap (λ (k : ℕ). k + 4) c.decimal_len.ensures.exact ∙ sym (length_last_four c.args.n c.if-n-lt10000.false (omega arith))

pub returns-clause-short : goal.returns-clause-short
returns-clause-short t c = omega (arith, c.decimal_len.ensures.exact, length_last_four c.args.n c.if-n-lt10000.false (omega arith), decimal_short c.args.n (omega arith))
