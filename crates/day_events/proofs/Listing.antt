-- An instrument of a file is found by its symbol.
use Rattle.std.proofs.Common.{◌≡◌, ℕ, zero, suc, ◌<◌, nat_lt, nat_le, cond, not, ◌&&◌, Bool, true, false, List, [], ◌∷◌, length, get_or, bytes_eq, Option, Some, None, refl, sym, ap, ◌∙◌, arith, lt-ltb}
use Rattle.std.specs.List.{list_any, list_all, position_or_len}
use Rattle.std.proofs.lemmas.Bool.{and_parts, not-true, or_parts, true≢false}
use Rattle.std.proofs.lemmas.List.Quantifiers.{position-Some}
use Rattle.std.proofs.lemmas.List.Sums.{position_or_len_is}
use Rattle.std.proofs.lemmas.Slice.Eq.{bytes_eq-Decides}
use Rattle.instruments.specs.declared.instruments.Instrument.{Instrument}
use Rattle.instruments.specs.Listing.{symbol_of}
use Rattle.instruments.specs.Rows.{are_distinct, is_instrument, is_instrument_file, is_same_symbol, most_instruments}
use Rattle.day_events.specs.Bests.{place_in}

distinct : (file : List Instrument) → is_instrument_file file ≡ true → are_distinct file ≡ true
distinct file rule =
    let some = and_parts (nat_le 1 (length file)) (nat_le (length file) most_instruments && (list_all is_instrument file && are_distinct file)) rule in
    let few = and_parts (nat_le (length file) most_instruments) (list_all is_instrument file && are_distinct file) some.1 in
    (and_parts (list_all is_instrument file) (are_distinct file) few.1).1

symbol_at : (file : List Instrument) (y : ℕ) (d : Instrument) → y < length file → symbol_of file y ≡ (get_or file y d).symbol
symbol_at [] y d low = absurd (omega (arith, low))
symbol_at (z ∷ zs) zero d low = refl
symbol_at (z ∷ zs) (suc y) d low = symbol_at zs y d (omega (arith, low))

none_there : (p : Instrument → Bool) (file : List Instrument) (y : ℕ) (d : Instrument) → list_any p file ≡ false → y < length file → p (get_or file y d) ≡ false
none_there p [] y d none low = absurd (omega (arith, low))
none_there p (z ∷ zs) zero d none low = (or_parts (p z) (list_any p zs) none).0
none_there p (z ∷ zs) (suc y) d none low = none_there p zs y d (or_parts (p z) (list_any p zs) none).1 (omega (arith, low))

bytes_turned : (a b : List ℕ) → bytes_eq a b ≡ false → bytes_eq b a ≡ false
bytes_turned a b other = by (bytes_eq b a) refl
  where
    by : (t : Bool) → bytes_eq b a ≡ t → bytes_eq b a ≡ false
    by false e = e
    by true e = absurd (true≢false (sym ((bytes_eq-Decides a b).1 (sym ((bytes_eq-Decides b a).0 e))) ∙ other))

apart : (file : List Instrument) → are_distinct file ≡ true → (k y : ℕ) (d : Instrument) → k < y → y < length file → bytes_eq (get_or file y d).symbol (get_or file k d).symbol ≡ false
apart [] once k y d first low = absurd (omega (arith, low))
apart (z ∷ zs) once k zero d first low = absurd (omega (arith, first))
apart (z ∷ zs) once zero (suc y) d first low =
    let here = and_parts (not (list_any (is_same_symbol z) zs)) (are_distinct zs) once in
    bytes_turned z.symbol (get_or zs y d).symbol (none_there (is_same_symbol z) zs y d (not-true (list_any (is_same_symbol z) zs) here.0) (omega (arith, low)))
apart (z ∷ zs) once (suc k) (suc y) d first low = apart zs (and_parts (not (list_any (is_same_symbol z) zs)) (are_distinct zs) once).1 k y d (omega (arith, first)) (omega (arith, low))

found_at : (file : List Instrument) → are_distinct file ≡ true → (y : ℕ) (d : Instrument) → y < length file → position_or_len (λ (x : Instrument). bytes_eq (symbol_of file y) x.symbol) file ≡ y
found_at file once y d low =
    let at : symbol_of file y ≡ (get_or file y d).symbol = symbol_at file y d low in
    position_or_len_is (λ (x : Instrument). bytes_eq (symbol_of file y) x.symbol) file y d (omega (arith, low))
    (λ k first. ap (λ (s : List ℕ). bytes_eq s (get_or file k d).symbol) at ∙ apart file once k y d first low)
    (λ l. (bytes_eq-Decides (symbol_of file y) (get_or file y d).symbol).1 at)

pub found : (file : List Instrument) → is_instrument_file file ≡ true → (y : ℕ) → y < length file → place_in file (Some (symbol_of file y)) ≡ Some y
found [] rule y low = absurd (omega (arith, low))
found (z ∷ zs) rule y low =
    let n = length (z ∷ zs) in
    ap (λ (k : ℕ). cond (nat_lt k n) (Some k) None) (found_at (z ∷ zs) (distinct (z ∷ zs) rule) y z low) ∙ ap (λ b. cond b (Some y) None) (lt-ltb y n low)

pub listed : (file : List Instrument) (symbol : Option (List ℕ)) (y : ℕ) → place_in file symbol ≡ Some y → y < length file
listed file None y e = absurd (nothing y e)
  where
    nothing : (y : ℕ) → None ≡ Some y → ⊥
    nothing y e = cc
listed [] (Some symbol) y e = absurd (nothing y e)
  where
    nothing : (y : ℕ) → None ≡ Some y → ⊥
    nothing y e = cc
listed (z ∷ zs) (Some symbol) y e = (position-Some (λ (x : Instrument). bytes_eq symbol x.symbol) (z ∷ zs) y z e).0
