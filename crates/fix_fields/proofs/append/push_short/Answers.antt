use Rattle.std.proofs.Common.{◌++◌, ◌∷◌, [], ◌+◌, ◌/◌, ◌%◌, List, ℕ, ap, sym, ◌∙◌, append_assoc}
use Rattle.fix_fields.proofs.DecimalLemmas.{decimal_two, decimal_three}
use Rattle.fix_fields.proofs.append.push_short.Goals as goal

pub returns-then-n-lt100-clause-items : goal.returns-then-n-lt100-clause-items
returns-then-n-lt100-clause-items c =
    let old = c.args.bytes.now.items in
    let n = c.args.n in
    c.push_digit-then-n-lt100-2.ensures.items
    ∙ ap (λ (l : List ℕ). l ++ (48 + n % 10) ∷ []) c.push_digit-then-n-lt100.ensures.items
    ∙ append_assoc old ((48 + n / 10) ∷ []) ((48 + n % 10) ∷ [])
    ∙ ap (λ (l : List ℕ). old ++ l) (sym (decimal_two n c.if-n-lt10.false c.if-n-lt100.true))

pub returns-then-n-lt1000-clause-items : goal.returns-then-n-lt1000-clause-items
returns-then-n-lt1000-clause-items c =
    let old = c.args.bytes.now.items in
    let n = c.args.n in
    c.push_digit-then-n-lt1000-3.ensures.items
    ∙ ap (λ (l : List ℕ). l ++ (48 + n % 10) ∷ []) (c.push_digit-then-n-lt1000-2.ensures.items ∙ ap (λ (l : List ℕ). l ++ (48 + n / 10 % 10) ∷ []) c.push_digit-then-n-lt1000.ensures.items ∙ append_assoc old ((48 + n / 100) ∷ []) ((48 + n / 10 % 10) ∷ []))
    ∙ append_assoc old ((48 + n / 100) ∷ ((48 + n / 10 % 10) ∷ [])) ((48 + n % 10) ∷ [])
    ∙ ap (λ (l : List ℕ). old ++ l) (sym (decimal_three n c.if-n-lt100.false c.if-n-lt1000.true))
