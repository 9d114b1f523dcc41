-- That an escaped value is read as it is.
use Rattle.std.specs.Prelude.{◌≡◌, ℕ, ◌+◌, ◌*◌, ◌<◌, ◌/◌, ◌%◌, List, [], ◌∷◌, ◌++◌, Bool, true, false, ◌==◌, codes, if◌then◌else◌, refl}
use Rattle.std.proofs.Common.{◌∙◌, ap, arith}
use Rattle.std.proofs.lemmas.Bool.Decides.{nat_tests}
use Rattle.std.proofs.lemmas.List.Elements.{All-head, All-tail}
use Rattle.page_text.specs.Escapes.{digit, escaped_all, is_printable, numeric}
use Rattle.page_text.specs.Laws.{ValuesAreReadBack}
use Rattle.page_text.specs.ReadBack.{Plain, digit_value, read_back}

same_number : (b k : ℕ) (is : Bool) → (b == k) ≡ is → is ≡ true → k ≡ b
same_number b k is e f = let h : (b == k) ≡ true = e ∙ f in grind (arith, nat_tests)

digit_read : (n : ℕ) → n < 16 → digit_value (digit n) ≡ n
digit_read n h = grind (arith, nat_tests)

digit_goes_on : (n : ℕ) → (digit n == 59) ≡ false
digit_goes_on n = grind (arith, nat_tests)

numeric_read : (b : ℕ) (rest : List ℕ) → b < 256 → read_back Plain (numeric b ++ rest) ≡ b ∷ read_back Plain rest
numeric_read b rest small =
    let high : digit_value (digit (b / 16)) ≡ b / 16 = digit_read (b / 16) (omega arith) in
    let low : digit_value (digit (b % 16)) ≡ b % 16 = digit_read (b % 16) (omega arith) in
    let value : (b / 16) * 16 + b % 16 ≡ b = omega arith in
    rw (digit_goes_on (b / 16), digit_goes_on (b % 16), high, low, value) refl

byte_read : (b : ℕ) (rest : List ℕ) (e38 e60 e62 e34 e39 p : Bool) → b < 256 → (b == 38) ≡ e38 → (b == 60) ≡ e60 → (b == 62) ≡ e62 → (b == 34) ≡ e34 → (b == 39) ≡ e39
    → read_back Plain ((if e38 then codes "&amp;" else (if e60 then codes "&lt;" else (if e62 then codes "&gt;" else (if e34 then codes "&quot;" else (if e39 then codes "&#39;" else (if p then b ∷ [] else numeric b)))))) ++ rest) ≡ b ∷ read_back Plain rest
byte_read b rest true e60 e62 e34 e39 p small h38 h60 h62 h34 h39 = ap (λ n. n ∷ read_back Plain rest) (same_number b 38 true h38 refl)
byte_read b rest false true e62 e34 e39 p small h38 h60 h62 h34 h39 = ap (λ n. n ∷ read_back Plain rest) (same_number b 60 true h60 refl)
byte_read b rest false false true e34 e39 p small h38 h60 h62 h34 h39 = ap (λ n. n ∷ read_back Plain rest) (same_number b 62 true h62 refl)
byte_read b rest false false false true e39 p small h38 h60 h62 h34 h39 = ap (λ n. n ∷ read_back Plain rest) (same_number b 34 true h34 refl)
byte_read b rest false false false false true p small h38 h60 h62 h34 h39 = ap (λ n. n ∷ read_back Plain rest) (same_number b 39 true h39 refl)
byte_read b rest false false false false false true small h38 h60 h62 h34 h39 = rw h38 refl
byte_read b rest false false false false false false small h38 h60 h62 h34 h39 = numeric_read b rest small

pub values_are_read_back : ValuesAreReadBack
values_are_read_back [] h = refl
values_are_read_back (b ∷ v) h =
    byte_read b (escaped_all v) (b == 38) (b == 60) (b == 62) (b == 34) (b == 39) (is_printable b) (All-head (λ (x : ℕ). x < 256) b v h) refl refl refl refl refl
    ∙ ap (λ l. b ∷ l) (values_are_read_back v (All-tail (λ (x : ℕ). x < 256) b v h))
