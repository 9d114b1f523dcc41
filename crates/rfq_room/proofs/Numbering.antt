use Rattle.std.proofs.Common.{◌≡◌, refl, sym, ap, ◌∙◌, ℕ, zero, suc, ◌+◌, ◌-◌, ◌*◌, ◌≤◌, ◌<◌, ◌^◌, Bool, true, false, cond, ◌==◌, List, [], ◌∷◌, length, get_or, take, map, find, Option, Some, None, Bor, option_map, eq-eqb, bytes_eq, decimal, arith}
use Rattle.std.specs.Char.{digit_value}
use Rattle.std.specs.Str.Parse.{AllDigits, digits_value_after}
use Rattle.std.specs.List.{slice_get}
use Rattle.std.proofs.lemmas.Bool.{eqb-true}
use Rattle.std.specs.Slice.{IsItemAt}
use Rattle.std.proofs.lemmas.Fmt.{decimal_digit, decimal_injective, decimal_nonempty, first_decimal}
use Rattle.std.proofs.lemmas.Option.{slice_get_past, slice_get_read}
use Rattle.std.proofs.lemmas.Slice.Eq.{bytes_eq-Decides}
use Rattle.venue_rules.specs.Rooms.{printed}
use Rattle.rfq_room.specs.Numbered.{AreFrom}

-- different numbers

apart : (a b : ℕ) → (a ≡ b → ⊥) → a == b ≡ false
apart a b h = by (a == b) refl
  where
    by : (c : Bool) → a == b ≡ c → a == b ≡ false
    by true e = absurd (h (eqb-true a b e))
    by false e = e

-- each of consecutive numbers is at its place

pub at-place : {X : Type 0} (num : X → ℕ) (xs : List X) (k i : ℕ) → AreFrom k (map num xs) → find (λ x. num x == k + i) xs ≡ slice_get xs i
at-place num [] k i from = refl
at-place num (x ∷ xs) k zero from = rw (eq-eqb (num x) (k + 0) (from.0 ∙ omega arith)) refl
at-place num (x ∷ xs) k (suc i) from =
    let e : num x ≡ k = from.0 in
    let other : num x == k + suc i ≡ false = apart (num x) (k + suc i) (λ h. absurd (omega (arith, h, e))) in
    let next : k + suc i ≡ suc k + i = omega arith in
    rw other (ap (λ n. find (λ y. num y == n) xs) next ∙ at-place num xs (suc k) i from.1)

pub placed : {X : Type 0} (num : X → ℕ) (xs : List X) (n : ℕ) → AreFrom 1 (map num xs) → 0 < n → find (λ x. num x == n) xs ≡ slice_get xs (n - 1)
placed num xs n from h =
    let same : n ≡ 1 + (n - 1) = omega (arith, h) in
    ap (λ m. find (λ x. num x == m) xs) same ∙ at-place num xs 1 (n - 1) from

pub none-below : {X : Type 0} (num : X → ℕ) (xs : List X) (k : ℕ) → AreFrom (suc k) (map num xs) → find (λ x. num x == 0) xs ≡ None
none-below num [] k from = refl
none-below num (x ∷ xs) k from =
    let e : num x ≡ suc k = from.0 in
    rw (apart (num x) 0 (λ h. absurd (omega (arith, h, e)))) (none-below num xs (suc k) from.1)

-- different numbers are printed differently

tail-same : (prefix : ℕ) (ds es : List ℕ) → prefix ∷ ds ≡ prefix ∷ es → ds ≡ es
tail-same prefix ds es h = cc

printed-once : (prefix m n : ℕ) (id : List ℕ) → m < 2 ^ 64 → n < 2 ^ 64 → bytes_eq (printed prefix m) id ≡ true → bytes_eq (printed prefix n) id ≡ true → m ≡ n
printed-once prefix m n id h k e f = decimal_injective m n h k (tail-same prefix (decimal m) (decimal n) ((bytes_eq-Decides (printed prefix m) id).0 e ∙ sym ((bytes_eq-Decides (printed prefix n) id).0 f)))

-- so the text printed for a number finds what has the number

pub printed-found : {X : Type 0} (num : X → ℕ) (prefix n : ℕ) (id : List ℕ) (xs : List X) (k : ℕ) → n < 2 ^ 64 → bytes_eq (printed prefix n) id ≡ true → AreFrom k (map num xs) → k + length xs ≤ 2 ^ 64 → find (λ x. bytes_eq (printed prefix (num x)) id) xs ≡ find (λ x. num x == n) xs
printed-found num prefix n id [] k h e from few = refl
printed-found {X} num prefix n id (x ∷ xs) k h e from few = by (bytes_eq (printed prefix (num x)) id) (num x == n) refl refl (printed-found num prefix n id xs (suc k) h e from.1 (omega (arith, few)))
  where
    small : num x < 2 ^ 64
    small = let first : num x ≡ k = from.0 in omega (arith, first, few)

    by : (b c : Bool) → bytes_eq (printed prefix (num x)) id ≡ b → num x == n ≡ c → find (λ y. bytes_eq (printed prefix (num y)) id) xs ≡ find (λ y. num y == n) xs → cond b (Some x) (find (λ y. bytes_eq (printed prefix (num y)) id) xs) ≡ cond c (Some x) (find (λ y. num y == n) xs)
    by true true f g ih = refl
    by true false f g ih = let never : true ≡ false = sym (eq-eqb (num x) n (printed-once prefix (num x) n id small h f e)) ∙ g in cc
    by false true f g ih = let never : true ≡ false = sym e ∙ ap (λ m. bytes_eq (printed prefix m) id) (sym (eqb-true (num x) n g)) ∙ f in cc
    by false false f g ih = ih

pub printed-none : {X : Type 0} (num : X → ℕ) (prefix : ℕ) (id : List ℕ) (xs : List X) (k : ℕ) → ((n : ℕ) → n < 2 ^ 64 → bytes_eq (printed prefix n) id ≡ false) → AreFrom k (map num xs) → k + length xs ≤ 2 ^ 64 → find (λ x. bytes_eq (printed prefix (num x)) id) xs ≡ None
printed-none num prefix id [] k none from few = refl
printed-none num prefix id (x ∷ xs) k none from few =
    let first : num x ≡ k = from.0 in
    rw (none (num x) (omega (arith, first, few))) (printed-none num prefix id xs (suc k) none from.1 (omega (arith, few)))

-- a reference to a place of a list

pub got : {X : Type 0} (xs : List X) (i : ℕ) (r : Option (Bor X)) → IsItemAt xs i r → option_map (λ (x : Bor X). x.now) r ≡ slice_get xs i
got xs i None h = sym (slice_get_past xs i h.3)
got xs i (Some x) h = sym (slice_get_read xs (length xs) i x.now refl h.3.0 h.1)

-- the digits of a number begin with 0 where they are 0 alone
zero-alone : (n : ℕ) → n < 2 ^ 64 → get_or (decimal n) 0 0 ≡ 48 → length (decimal n) ≡ 1
zero-alone zero h e = ap length (decimal_digit 0 (omega arith))
zero-alone (suc n) h e = absurd (omega (arith, e, first_decimal (suc n) (omega arith) h))

pub plain-decimal : (n : ℕ) → n < 2 ^ 64 → (0 < length (decimal n)) × (get_or (decimal n) 0 0 ≡ 48 → length (decimal n) ≡ 1)
plain-decimal n h = (decimal_nonempty n h, zero-alone n h)

-- more digits make the number no less
value-more : (n : ℕ) (ds : List ℕ) → n ≤ digits_value_after 10 n ds
value-more n [] = omega arith
value-more n (d ∷ ds) = let more = value-more (n * 10 + digit_value d) ds in omega (arith, more)

-- a place of digits has a digit, and the digits up to it make no more than all do
pub digit-of : (ds : List ℕ) (n m i : ℕ) → i < length ds → AllDigits 10 ds → digits_value_after 10 m ds ≡ n → (digit_value (get_or ds i 0) < 10) × (digits_value_after 10 m (take i ds) * 10 + digit_value (get_or ds i 0) ≤ n)
digit-of [] n m i less digits e = absurd (omega (arith, less))
digit-of (d ∷ ds) n m zero less digits e = (digits.0, omega (arith, e, value-more (m * 10 + digit_value d) ds))
digit-of (d ∷ ds) n m (suc i) less digits e = digit-of ds n (m * 10 + digit_value d) i (omega (arith, less)) digits.1 e
