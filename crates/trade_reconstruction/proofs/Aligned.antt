-- Notes in the order of their trades are found by their places.
use Rattle.std.proofs.Common.{◌≡◌, refl, sym, ap, ◌∙◌, ℕ, zero, suc, ◌+◌, ◌<◌, ◌==◌, Bool, true, if◌then◌else◌, List, [], ◌∷◌, ◌++◌, length, take, drop, eqb-true, ne_eqb, arith}
use Rattle.std.specs.List.{flat_map}
use Rattle.trade_reconstruction.specs.declared.trade_notes.TradeNotes.{TradeNotes}
use Rattle.trade_reconstruction.specs.Emitted.{fates_for, stood_for}
use Rattle.trade_reconstruction.specs.Notes.{aligned_from, are_aligned, first_number}
use Rattle.trade_reconstruction.proofs.Holds.{and_parts}

-- a part of the note on a trade
abbrev part : {A : Type 0} → (TradeNotes → List A) → ℕ → TradeNotes → List A
part of number x = if x.number == number then of x else []

above : {A : Type 0} (of : TradeNotes → List A) (b number : ℕ) (xs : List TradeNotes) → aligned_from b xs ≡ true → number < b → flat_map (part of number) xs ≡ []
above of b number [] aligned low = refl
above {A} of b number (x ∷ xs) aligned low =
    let parts = and_parts (x.number == b) (aligned_from (b + 1) xs) aligned in
    let apart = ne_eqb x.number number (λ e. below x.number b number (eqb-true x.number b parts.0) e low) in
    ap (λ (c : Bool). (if c then of x else []) ++ flat_map (part of number) xs) apart ∙ above of (b + 1) number xs parts.1 (further number b low)
  where
    below : (x b n : ℕ) → x ≡ b → x ≡ n → n < b → ⊥
    below x b n e f l = omega (arith, e, f, l)

    further : (n b : ℕ) → n < b → n < b + 1
    further n b l = omega (arith, l)

placed : {A : Type 0} (of : TradeNotes → List A) (b at number : ℕ) (xs : List TradeNotes) → aligned_from b xs ≡ true → at < length xs → number ≡ b + at → flat_map (part of number) (take 1 (drop at xs)) ≡ flat_map (part of number) xs
placed of b at number [] aligned within is = absurd (omega (arith, within))
placed {A} of b zero number (x ∷ xs) aligned within is =
    let parts = and_parts (x.number == b) (aligned_from (b + 1) xs) aligned in
    ap (λ (l : List A). part of number x ++ l) (sym (above of (b + 1) number xs parts.1 (next number b is)))
  where
    next : (n b : ℕ) → n ≡ b + 0 → n < b + 1
    next n b e = omega (arith, e)
placed {A} of b (suc at) number (x ∷ xs) aligned within is =
    let parts = and_parts (x.number == b) (aligned_from (b + 1) xs) aligned in
    let apart = ne_eqb x.number number (λ e. below x.number b number at (eqb-true x.number b parts.0) e is) in
    placed of (b + 1) at number xs parts.1 (omega (arith, within)) (further number b at is) ∙ ap (λ (c : Bool). (if c then of x else []) ++ flat_map (part of number) xs) (sym apart)
  where
    below : (x b n at : ℕ) → x ≡ b → x ≡ n → n ≡ b + suc at → ⊥
    below x b n at e f g = omega (arith, e, f, g)

    further : (n b at : ℕ) → n ≡ b + suc at → n ≡ b + 1 + at
    further n b at e = omega (arith, e)

pub stood_placed : (at number : ℕ) (xs : List TradeNotes) → are_aligned xs ≡ true → at < length xs → number ≡ first_number xs + at → stood_for number (take 1 (drop at xs)) ≡ stood_for number xs
stood_placed at number xs aligned within is = placed (λ (x : TradeNotes). x.stood.items) (first_number xs) at number xs aligned within is

pub fates_placed : (at number : ℕ) (xs : List TradeNotes) → are_aligned xs ≡ true → at < length xs → number ≡ first_number xs + at → fates_for number (take 1 (drop at xs)) ≡ fates_for number xs
fates_placed at number xs aligned within is = placed (λ (x : TradeNotes). x.fates.items) (first_number xs) at number xs aligned within is
