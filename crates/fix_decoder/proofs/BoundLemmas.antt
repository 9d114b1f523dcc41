-- Values that are read are in their ranges.
use Rattle.std.proofs.Common.{◌≡◌, ℕ, zero, suc, ◌≤◌, true, false, Bool, List, refl, sym, ◌∙◌, arith, rules, cond, ◌==◌, ◌&&◌, nat_le, Result, Ok, Err, Some, None, ℤ, pos, neg_ℤ, unsigned_abs, drop}
use Rattle.std.specs.Prelude.{slice_index}
use Rattle.std.proofs.lemmas.Bool.Decides.{nat_tests}
use Rattle.fix_fields.specs.declared.value.ValueFault.{ValueFault}
use Rattle.fix_fields.specs.declared.value.ValueFault.TheVariants.{Range}
use Rattle.fix_fields.specs.Forms.{within, integer_in, decimal_in, quantity_of, amount_of, price_of, signed}
use Rattle.fix_validation.specs.Table.{unless}

err_not_ok : {X : Type 0} (e : ValueFault) (x : X) → Err e ≡ Ok x → ⊥
err_not_ok e x h = search (h, rules)

pub ok_then : {X : Type 0} (b : Bool) (x : Result X ValueFault) (e : ValueFault) (n : X) → cond b x (Err e) ≡ Ok n → x ≡ Ok n
ok_then true x e n h = h
ok_then false x e n h = absurd (err_not_ok e n h)

ok_otherwise : {X : Type 0} (b : Bool) (x : Result X ValueFault) (e : ValueFault) (n : X) → cond b (Err e) x ≡ Ok n → x ≡ Ok n
ok_otherwise true x e n h = absurd (err_not_ok e n h)
ok_otherwise false x e n h = h

pub within_test : (b : Bool) (n m : ℕ) → cond b (Ok n) (Err Range) ≡ Ok m → (b ≡ true) × (n ≡ m)
within_test true n m h = (refl, search (h, rules))
within_test false n m h = absurd (err_not_ok Range m h)

pub within_bound : (low high n m : ℕ) → within low high n ≡ Ok m → (low ≤ m) × (m ≤ high)
within_bound low high n m h =
    let found = within_test (nat_le low n && nat_le n high) n m h in
    let test = found.0 in
    let same = found.1 in
    (grind (arith, nat_tests), grind (arith, nat_tests))

pub integer_bound : (low high : ℕ) (text : List ℕ) (m : ℕ) → integer_in low high text ≡ Ok m → (low ≤ m) × (m ≤ high)
unfolding integer_in
integer_bound low high text m h = within_bound low high _ m (ok_then _ _ _ m h)

pub decimal_bound : (places low high : ℕ) (text : List ℕ) (m : ℕ) → decimal_in places low high text ≡ Ok m → (low ≤ m) × (m ≤ high)
unfolding decimal_in
decimal_bound places low high text m h = within_bound low high _ m (ok_then _ _ _ m (ok_otherwise _ _ _ m h))

pub quantity_bound : (text : List ℕ) (r : Result ℕ ValueFault) (m : ℕ) → r ≡ Ok m → r ≡ quantity_of text → (1 ≤ m) × (m ≤ 1_000_000_000_000_000)
quantity_bound text r m e h = decimal_bound 0 1 1_000_000_000_000_000 text m (sym h ∙ e)

pub amount_bound : (text : List ℕ) (r : Result ℕ ValueFault) (m : ℕ) → r ≡ Ok m → r ≡ amount_of text → m ≤ 1_000_000_000_000_000
amount_bound text r m e h = (decimal_bound 0 0 1_000_000_000_000_000 text m (sym h ∙ e)).1

pub number_bound : (low high : ℕ) (text : List ℕ) (r : Result ℕ ValueFault) (m : ℕ) → r ≡ Ok m → r ≡ integer_in low high text → (low ≤ m) × (m ≤ high)
number_bound low high text r m e h = integer_bound low high text m (sym h ∙ e)

negated : (n : ℕ) → unsigned_abs (neg_ℤ (pos n)) ≡ n
negated zero = refl
negated (suc n) = refl

signed_bound : (negative : Bool) (r : Result ℕ ValueFault) (p : ℤ) (high : ℕ) → ((m : ℕ) → r ≡ Ok m → m ≤ high) → signed negative r ≡ Ok p → unsigned_abs p ≤ high
signed_bound true (Ok n) p high h e = let same : neg_ℤ (pos n) ≡ p = search (e, rules) in rw (← same, negated n) (h n refl)
signed_bound false (Ok n) p high h e = let same : pos n ≡ p = search (e, rules) in rw (← same) (h n refl)
signed_bound negative (Err x) p high h e = absurd (err_not_ok x p e)

price_cases : (b : Bool) (x y : Result ℤ ValueFault) (p : ℤ) (high : ℕ) → (x ≡ Ok p → unsigned_abs p ≤ high) → (y ≡ Ok p → unsigned_abs p ≤ high) → cond b x y ≡ Ok p → unsigned_abs p ≤ high
price_cases true x y p high h k e = h e
price_cases false x y p high h k e = k e

pub price_bound : (text : List ℕ) (r : Result ℤ ValueFault) (p : ℤ) → r ≡ Ok p → r ≡ price_of text → unsigned_abs p ≤ 1_000_000_000_000_000_000
price_bound text r p e h =
    price_cases (slice_index text 0 == 45) _ _ p 1_000_000_000_000_000_000
    (λ k. signed_bound true _ p _ (λ m is. (decimal_bound 6 0 1_000_000_000_000_000_000 (drop 1 text) m is).1) k)
    (λ k. signed_bound false _ p _ (λ m is. (decimal_bound 6 0 1_000_000_000_000_000_000 text m is).1) k)
    (sym h ∙ e)

some_not_none : {X : Type 0} (x : X) → Some x ≡ None → ⊥
some_not_none x h = search (h, rules)

pub unless_none : (b : Bool) (fault : ValueFault) → unless b fault ≡ None → b ≡ true
unless_none true fault h = refl
unless_none false fault h = absurd (some_not_none fault h)
