-- A tag read digit by digit, and a value byte by byte.
use Rattle.std.proofs.Common.{◌≡◌, ◌≢◌, ℕ, zero, suc, ◌+◌, ◌-◌, ◌*◌, ◌<◌, ◌≤◌, true, List, [], ◌∷◌, ◌++◌, length, get_or, take, drop, refl, sym, arith, decimal, add-one, false, ◌==◌, Some}
use Rattle.std.specs.Char.{is_ascii_digit}
use Rattle.std.specs.List.{list_all, position, position_or_len}
use Rattle.std.specs.Str.Parse.{digits_value}
use Rattle.std.proofs.lemmas.Bool.Decides.{nat_tests}
use Rattle.std.proofs.lemmas.List.{take_more, length-take-le}
use Rattle.std.proofs.lemmas.List.Folds.{list_all_more}
use Rattle.std.proofs.lemmas.List.Sums.{fails_before_first, passes_at_first}
use Rattle.std.proofs.lemmas.Str.Parse.{digits_value_short}
use Rattle.fix_fields.specs.Cut.{Lacks}
use Rattle.fix_fields.specs.Fields.{IsTag, IsTagText, IsValue}
use Rattle.fix_fields.proofs.CutLemmas.{parted, Lacks-take}
use Rattle.fix_fields.proofs.DigitLemmas.{own, digits_value_after-push}
use Rattle.fix_fields.proofs.TagLemmas.{IsTag-value, decimal-tag}

pub digits-push : (xs : List ℕ) (i : ℕ) → i < length xs → is_ascii_digit (get_or xs i 0) ≡ true → list_all is_ascii_digit (take i xs) ≡ true → list_all is_ascii_digit (take (i + 1) xs) ≡ true
digits-push xs i lt digit all = rw (list_all_more is_ascii_digit xs i 0 lt, all, digit) refl

pub value-push : (xs : List ℕ) (i : ℕ) → i < length xs → is_ascii_digit (get_or xs i 0) ≡ true → digits_value 10 (take i xs) * 10 + (get_or xs i 0 - 48) ≡ digits_value 10 (take (i + 1) xs)
value-push xs i lt digit =
    let low : 48 ≤ get_or xs i 0 = grind (arith, nat_tests) in
    let high : get_or xs i 0 ≤ 57 = grind (arith, nat_tests) in
    rw (take_more xs i 0 lt) (sym (digits_value_after-push 0 (take i xs) (get_or xs i 0) low high))

pub value-bound : (xs : List ℕ) (i : ℕ) → i ≤ 8 → i < length xs → list_all is_ascii_digit (take i xs) ≡ true → digits_value 10 (take i xs) ≤ 99_999_999
value-bound xs i short lt all = omega (arith, digits_value_short own (take i xs) 8 all (omega (arith, length-take-le i xs (omega arith))))

first-taken : (xs : List ℕ) (i : ℕ) → 0 < i → get_or (take i xs) 0 0 ≡ get_or xs 0 0
first-taken xs zero some = absurd (omega arith)
first-taken [] (suc i) some = refl
first-taken (x ∷ xs) (suc i) some = refl

pub front-tag : (xs : List ℕ) (i : ℕ) → 0 < i → i ≤ 9 → i < length xs → get_or xs 0 0 ≢ 48 → get_or xs i 0 ≡ 61 → list_all is_ascii_digit (take i xs) ≡ true
    → IsTag (digits_value 10 (take i xs)) × (xs ≡ decimal (digits_value 10 (take i xs)) ++ 61 ∷ drop (i + 1) xs)
front-tag xs i some short lt first here all =
    let text : IsTagText (take i xs) = record { some = omega (arith, length-take-le i xs (omega arith)); short = omega (arith, length-take-le i xs (omega arith)); first = rw (first-taken xs i some) first; digits = all } in
    (IsTag-value (take i xs) text, rw (decimal-tag (take i xs) text, add-one) (parted xs i 61 lt here))

soh-place : (xs : List ℕ) (i : ℕ) → position (λ (c : ℕ). c == 1) xs ≡ Some i → (position_or_len (λ (c : ℕ). c == 1) xs ≡ i) × (i < length xs)
soh-place xs i e = grind (arith, nat_tests)

soh-before : (xs : List ℕ) (i k : ℕ) → position_or_len (λ (c : ℕ). c == 1) xs ≡ i → k < i → get_or xs k 0 ≢ 1
soh-before xs i k e lt is =
    let not_here : (get_or xs k 0 == 1) ≡ false = fails_before_first (λ (c : ℕ). c == 1) xs k 0 (omega (arith, e, lt)) in
    grind (arith, nat_tests)

pub front-value : (xs : List ℕ) (i : ℕ) → 0 < i → position (λ (c : ℕ). c == 1) xs ≡ Some i
    → IsValue (take i xs) × (xs ≡ take i xs ++ 1 ∷ drop (i + 1) xs)
front-value xs i some e =
    let place = soh-place xs i e in
    let lt : i < length xs = place.1 in
    let here : (get_or xs i 0 == 1) ≡ true = rw place.0 at (passes_at_first (λ (c : ℕ). c == 1) xs 0 (rw place.0 lt)) in
    let one : get_or xs i 0 ≡ 1 = grind (arith, nat_tests) in
    let lacks : Lacks 1 (take i xs) = Lacks-take 1 xs i (λ k below is. soh-before xs i k place.0 below is) in
    (record { some = omega (arith, length-take-le i xs (omega arith)); one_piece = lacks }, rw add-one (parted xs i 1 lt one))
