use Rattle.std.proofs.Common.{◌++◌, ◌/◌, List, ℕ, arith, ap, sym, ◌∙◌, append_assoc, decimal}
use Rattle.fix_fields.specs.Forms.{four_digits}
use Rattle.fix_fields.proofs.DecimalLemmas.{decimal_last_four, length_last_four}
use Rattle.fix_fields.proofs.append.+push_decimal.Goals as goal

pub push_decimal-requires : goal.push_decimal-requires
push_decimal-requires t c = (omega arith, omega (arith, c.requires, length_last_four c.args.n c.if-n-lt10000.false (omega arith)))

pub push_four-requires : goal.push_four-requires
push_four-requires t c = omega (arith, c.requires, c.push_decimal.ensures.len, c.push_decimal.ensures.capacity, length_last_four c.args.n c.if-n-lt10000.false (omega arith))

pub returns-clause-items : goal.returns-clause-items
returns-clause-items t c =
    let old = c.args.bytes.now.items in
    let n = c.args.n in
    c.push_four.ensures.items
    ∙ ap (λ (l : List ℕ). l ++ four_digits n) c.push_decimal.ensures.items
    ∙ append_assoc old (decimal (n / 10_000)) (four_digits n)
    ∙ ap (λ (l : List ℕ). old ++ l) (sym (decimal_last_four n c.if-n-lt10000.false (omega arith)))

pub returns-clause-len : goal.returns-clause-len
returns-clause-len t c = omega (arith, c.push_four.ensures.len, c.push_decimal.ensures.len, length_last_four c.args.n c.if-n-lt10000.false (omega arith))
