-- Numbers of a few digits, and the last four digits of a number.
use Rattle.std.proofs.Common.{refl, ◌≡◌, ℕ, ◌+◌, ◌/◌, ◌%◌, ◌^◌, ◌<◌, ◌≤◌, List, [], ◌∷◌, ◌++◌, length, decimal, ap, ◌∙◌, arith, append_assoc, length-append}
use Rattle.std.proofs.lemmas.Fmt.{decimal_digit, decimal_step, length-decimal-le}
use Rattle.fix_fields.specs.Forms.{four_digits}

pub decimal_two : (n : ℕ) → 10 ≤ n → n < 100 → decimal n ≡ (48 + n / 10) ∷ (48 + n % 10) ∷ []
decimal_two n low high = rw (decimal_step n low (omega arith), decimal_digit (n / 10) (omega arith)) refl

pub decimal_three : (n : ℕ) → 100 ≤ n → n < 1000 → decimal n ≡ (48 + n / 100) ∷ (48 + n / 10 % 10) ∷ (48 + n % 10) ∷ []
decimal_three n low high =
    let same : n / 10 / 10 ≡ n / 100 = omega arith in
    rw (decimal_step n (omega arith) (omega arith), decimal_two (n / 10) (omega arith) (omega arith), same) refl

pub decimal_four : (n : ℕ) → 1000 ≤ n → n < 10_000 → decimal n ≡ four_digits n
decimal_four n low high =
    let first : n / 10 / 100 ≡ n / 1000 % 10 = omega arith in
    let second : n / 10 / 10 % 10 ≡ n / 100 % 10 = omega arith in
    rw (decimal_step n (omega arith) (omega arith), decimal_three (n / 10) (omega arith) (omega arith), first, second) refl

pub decimal_last_four : (n : ℕ) → 10_000 ≤ n → n < 2 ^ 64 → decimal n ≡ decimal (n / 10_000) ++ four_digits n
decimal_last_four n low high =
    let tens : n / 10 / 10 ≡ n / 100 = omega arith in
    let hundreds : n / 100 / 10 ≡ n / 1000 = omega arith in
    let thousands : n / 1000 / 10 ≡ n / 10_000 = omega arith in
    let one = decimal_step n (omega arith) high in
    let two = rw tens at (decimal_step (n / 10) (omega arith) (omega arith)) in
    let three = rw hundreds at (decimal_step (n / 100) (omega arith) (omega arith)) in
    let four = rw thousands at (decimal_step (n / 1000) (omega arith) (omega arith)) in
    one ∙ ap (λ (l : List ℕ). l ++ (48 + n % 10) ∷ []) (two ∙ ap (λ (l : List ℕ). l ++ (48 + n / 10 % 10) ∷ []) (three ∙ ap (λ (l : List ℕ). l ++ (48 + n / 100 % 10) ∷ []) four))
    ∙ (search (append_assoc))

pub decimal_short : (n : ℕ) → n < 2 ^ 64 → length (decimal n) ≤ 20
decimal_short n h = length-decimal-le 20 n (omega arith) (omega arith) h

pub length_last_four : (n : ℕ) → 10_000 ≤ n → n < 2 ^ 64 → length (decimal n) ≡ length (decimal (n / 10_000)) + 4
length_last_four n low high = rw (decimal_last_four n low high) (length-append (decimal (n / 10_000)) (four_digits n))
