-- A printed value is a value, and short.
use Rattle.std.proofs.Common.{◌≡◌, ◌≢◌, ℕ, suc, ◌+◌, ◌/◌, ◌%◌, ◌^◌, ◌≤◌, ◌<◌, true, false, Bool, List, [], ◌∷◌, ◌++◌, refl, arith, rules, cond, ◌==◌, ◌&&◌, nat_le, nat_lt, length, length-append, decimal, ℤ, pos, negsuc}
use Rattle.std.specs.List.{list_all}
use Rattle.std.proofs.lemmas.Bool.Decides.{nat_tests}
use Rattle.std.proofs.lemmas.Fmt.{length-decimal-le}
use Rattle.sef_moment.specs.Utc.{utc_text}
use Rattle.fix_fields.specs.Cut.{Lacks}
use Rattle.fix_fields.specs.Fields.{IsValue}
use Rattle.fix_fields.specs.Forms.{six_digits, without_trailing_zeros, is_empty, millionths_text, price_text}
use Rattle.fix_fields.proofs.PrintLemmas.{IsValue-decimal, IsValue-utc_text}
use Rattle.fix_dictionary.specs.Values.{IsText, is_printable, is_graphic, IsPrice}

-- a value of at most this many bytes
pub record IsShort (longest : ℕ) (bytes : List ℕ) : Type 0 where
  pub value : IsValue bytes
  pub short : length bytes ≤ longest

both_true : (a b : Bool) → (a && b) ≡ true → (a ≡ true) × (b ≡ true)
both_true true b h = (refl, h)
both_true false b h = absurd (search (h, rules))

printable_lacks : (bytes : List ℕ) → list_all is_printable bytes ≡ true → Lacks 1 bytes
printable_lacks [] h = tt
printable_lacks (c ∷ cs) h =
    let parts = both_true (is_printable c) (list_all is_printable cs) h in
    let low = both_true (nat_le 32 c) (nat_le c 126) parts.0 in
    let bound : 32 ≤ c = grind (arith, nat_tests, low.0) in
    ((λ e. absurd (omega (arith, bound, e))), printable_lacks cs parts.1)

pub short_text : (n : ℕ) (bytes : List ℕ) → IsText n bytes → IsShort n bytes
short_text n bytes h =
    let some = both_true (nat_lt 0 (length bytes)) (nat_le (length bytes) n && list_all is_printable bytes) h in
    let rest = both_true (nat_le (length bytes) n) (list_all is_printable bytes) some.1 in
    let more : 0 < length bytes = grind (arith, nat_tests, some.0) in
    let few : length bytes ≤ n = grind (arith, nat_tests, rest.0) in
    record { value = record { some = more; one_piece = printable_lacks bytes rest.1 }; short = few }

pub short_decimal : (longest n : ℕ) → 0 < longest → n < 10 ^ longest → n < 2 ^ 64 → IsShort longest (decimal n)
short_decimal longest n some bound fits = record { value = IsValue-decimal n fits; short = length-decimal-le longest n some bound fits }

pub short_byte : (c : ℕ) → c ≢ 1 → IsShort 1 (c ∷ [])
short_byte c h = record { value = record { some = omega arith; one_piece = (h, tt) }; short = omega arith }

pub short_graphic : (c : ℕ) → is_graphic c ≡ true → IsShort 1 (c ∷ [])
short_graphic c h =
    let low = both_true (nat_le 33 c) (nat_le c 126) h in
    let bound : 33 ≤ c = grind (arith, nat_tests, low.0) in
    short_byte c (λ e. absurd (omega (arith, bound, e)))

utc_length : (moment : ℕ) → length (utc_text moment) ≡ 21
unfolding utc_text
utc_length moment = refl

pub short_moment : (moment : ℕ) → IsShort 21 (utc_text moment)
short_moment moment = record { value = IsValue-utc_text moment; short = omega (arith, utc_length moment) }

lacks_append : (xs ys : List ℕ) → Lacks 1 xs → Lacks 1 ys → Lacks 1 (xs ++ ys)
lacks_append [] ys h k = k
lacks_append (x ∷ xs) ys h k = (h.0, lacks_append xs ys h.1 k)

kept : (b : Bool) (c : ℕ) (cs : List ℕ) → c ≢ 1 → Lacks 1 cs → Lacks 1 (cond b [] (c ∷ cs))
kept true c cs h k = tt
kept false c cs h k = (h, k)

without_zeros_lacks : (ds : List ℕ) → Lacks 1 ds → Lacks 1 (without_trailing_zeros ds)
without_zeros_lacks [] h = tt
without_zeros_lacks (c ∷ cs) h = kept ((c == 48) && is_empty (without_trailing_zeros cs)) c (without_trailing_zeros cs) h.0 (without_zeros_lacks cs h.1)

kept_length : (b : Bool) (c : ℕ) (cs : List ℕ) → length (cond b [] (c ∷ cs)) ≤ 1 + length cs
kept_length true c cs = omega arith
kept_length false c cs = omega arith

without_zeros_length : (ds : List ℕ) → length (without_trailing_zeros ds) ≤ length ds
without_zeros_length [] = omega arith
without_zeros_length (c ∷ cs) =
    omega (arith, kept_length ((c == 48) && is_empty (without_trailing_zeros cs)) c (without_trailing_zeros cs), without_zeros_length cs)

no_soh : (n : ℕ) → 48 + n % 10 ≢ 1
no_soh n e = absurd (omega arith)

six_digits_lack : (n : ℕ) → Lacks 1 (six_digits n)
six_digits_lack n = (no_soh (n / 100_000), (no_soh (n / 10_000), (no_soh (n / 1000), (no_soh (n / 100), (no_soh (n / 10), (no_soh n, tt))))))

-- the point and the decimals, if any
abbrev decimals_text : Bool → ℕ → List ℕ
decimals_text whole n = cond whole [] (46 ∷ without_trailing_zeros (six_digits n))

decimals_lack : (whole : Bool) (n : ℕ) → Lacks 1 (decimals_text whole n)
decimals_lack true n = tt
decimals_lack false n = ((λ e. absurd (omega (arith, e))), without_zeros_lacks (six_digits n) (six_digits_lack n))

decimals_length : (whole : Bool) (n : ℕ) → length (decimals_text whole n) ≤ 7
decimals_length true n = omega arith
decimals_length false n = omega (arith, without_zeros_length (six_digits n))

millionths_value : (n : ℕ) → n ≤ 1_000_000_000_000_000_000 → IsShort 20 (millionths_text n)
millionths_value n h =
    let whole = short_decimal 13 (n / 1_000_000) (omega arith) (omega arith) (omega arith) in
    let test : Bool = (n % 1_000_000 == 0) in
    let more = length-append (decimal (n / 1_000_000)) (decimals_text test (n % 1_000_000)) in
    record {
      value = record {
        some = omega (arith, more, whole.value.some);
        one_piece = lacks_append (decimal (n / 1_000_000)) (decimals_text test (n % 1_000_000)) whole.value.one_piece (decimals_lack test (n % 1_000_000));
      };
      short = omega (arith, more, whole.short, decimals_length test (n % 1_000_000));
    }

pub short_price : (p : ℤ) → IsPrice p → IsShort 21 (price_text p)
short_price (pos n) h =
    let magnitude = millionths_value n h in
    record { value = magnitude.value; short = omega (arith, magnitude.short) }
short_price (negsuc n) h =
    let magnitude = millionths_value (suc n) h in
    record {
      value = record { some = omega arith; one_piece = ((λ e. absurd (omega (arith, e))), magnitude.value.one_piece) };
      short = omega (arith, magnitude.short);
    }
