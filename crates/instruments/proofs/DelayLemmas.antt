use Rattle.std.proofs.Common.{◌≡◌, refl, sym, ap, ◌∙◌, ℕ, Bool, true, false, not, ◌&&◌, ◌||◌, nat_le, List, [], ◌∷◌, length, suc, arith}
use Rattle.std.specs.List.{list_any, list_all}
use Rattle.std.proofs.lemmas.Bool.{true≢false, and_parts}
use Rattle.instruments.specs.declared.instruments.Instrument.{Instrument}
use Rattle.instruments.specs.Symbols.{is_symbol}
use Rattle.instruments.specs.Rows.{are_distinct, is_delay, is_instrument, is_instrument_file, is_least, is_request_life, is_same_symbol, is_tick, most_instruments}
use Rattle.instruments.specs.Delays.{are_delays, with_delay, with_delays}

-- The rows of a file with other delays.

both : (a b : Bool) → a ≡ true → b ≡ true → (a && b) ≡ true
both true b h k = k
both false b h k = absurd (true≢false (sym h))

as_many : (xs : List Instrument) (ds : List ℕ) → length ds ≡ length xs → length (with_delays xs ds) ≡ length xs
as_many [] ds h = refl
as_many (x ∷ xs) [] h = absurd (omega (arith, h))
as_many (x ∷ xs) (d ∷ ds) h = ap suc (as_many xs ds (omega (arith, h)))

good_row : (x : Instrument) (d : ℕ) → is_instrument x ≡ true → is_delay d ≡ true → is_instrument (with_delay x d) ≡ true
good_row x d h k =
    let s = and_parts (is_symbol x.symbol) _ h in
    let t = and_parts (is_tick x.tick) _ s.1 in
    let l = and_parts (is_least x.least) _ t.1 in
    let f = and_parts (is_request_life x.request_life) (is_delay x.delay) l.1 in
    both (is_symbol x.symbol) _ s.0 (both (is_tick x.tick) _ t.0 (both (is_least x.least) _ l.0 (both (is_request_life x.request_life) (is_delay d) f.0 k)))

good_rows : (xs : List Instrument) (ds : List ℕ) → list_all is_instrument xs ≡ true → are_delays ds ≡ true → list_all is_instrument (with_delays xs ds) ≡ true
good_rows [] ds h k = refl
good_rows (x ∷ xs) [] h k = refl
good_rows (x ∷ xs) (d ∷ ds) h k =
    let here = and_parts (is_instrument x) (list_all is_instrument xs) h in
    let now = and_parts (is_delay d) (list_all is_delay ds) k in
    both (is_instrument (with_delay x d)) (list_all is_instrument (with_delays xs ds)) (good_row x d here.0 now.0) (good_rows xs ds here.1 now.1)

same_symbols : (x : Instrument) (d : ℕ) (xs : List Instrument) (ds : List ℕ) → length ds ≡ length xs → list_any (is_same_symbol (with_delay x d)) (with_delays xs ds) ≡ list_any (is_same_symbol x) xs
same_symbols x d [] ds h = refl
same_symbols x d (y ∷ ys) [] h = absurd (omega (arith, h))
same_symbols x d (y ∷ ys) (e ∷ es) h = ap (λ b. is_same_symbol x y || b) (same_symbols x d ys es (omega (arith, h)))

as_distinct : (xs : List Instrument) (ds : List ℕ) → length ds ≡ length xs → are_distinct (with_delays xs ds) ≡ are_distinct xs
as_distinct [] ds h = refl
as_distinct (x ∷ xs) [] h = absurd (omega (arith, h))
as_distinct (x ∷ xs) (d ∷ ds) h =
    let tail : length ds ≡ length xs = omega (arith, h) in
    ap (λ b. not b && are_distinct (with_delays xs ds)) (same_symbols x d xs ds tail) ∙ ap (λ b. not (list_any (is_same_symbol x) xs) && b) (as_distinct xs ds tail)

-- a file with other delays is a file
pub file-delayed : (xs : List Instrument) (ds : List ℕ) → is_instrument_file xs ≡ true → length ds ≡ length xs → are_delays ds ≡ true → is_instrument_file (with_delays xs ds) ≡ true
file-delayed xs ds h many good =
    let some = and_parts (nat_le 1 (length xs)) _ h in
    let few = and_parts (nat_le (length xs) most_instruments) _ some.1 in
    let all = and_parts (list_all is_instrument xs) (are_distinct xs) few.1 in
    let count = as_many xs ds many in
    both (nat_le 1 (length (with_delays xs ds))) _ (ap (nat_le 1) count ∙ some.0)
    (both (nat_le (length (with_delays xs ds)) most_instruments) _ (ap (λ n. nat_le n most_instruments) count ∙ few.0)
    (both (list_all is_instrument (with_delays xs ds)) (are_distinct (with_delays xs ds)) (good_rows xs ds all.0 good) (as_distinct xs ds many ∙ all.1)))
