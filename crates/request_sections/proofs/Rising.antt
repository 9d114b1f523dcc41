-- The prices at a row, in a list of rising rows; prices that are kept one by one.
use Rattle.std.specs.Prelude.{◌≡◌, ℕ, zero, suc, ◌+◌, ◌<◌, ◌≤◌, ◌==◌, ◌&&◌, Bool, true, false, List, [], ◌∷◌, ◌++◌, cond, filter, length, drop, take, nat_le, nat_lt, refl}
use Rattle.std.specs.List.{AllWithin}
use Rattle.std.specs.List.Sorted.{IsNonDecreasingBy}
use Rattle.std.proofs.Common.{sym, ◌∙◌, ap, arith, append_assoc, get_or, leb, ltb}
use Rattle.std.proofs.lemmas.Bool.{true≢false}
use Rattle.std.proofs.lemmas.Bool.Decides.{nat_tests}
use Rattle.std.proofs.lemmas.List.{at_drop_more}
use Rattle.day_events.specs.declared.shown.ShownPrice.{ShownPrice}
use Rattle.request_sections.specs.Prices.{kept_if}
use Rattle.request_sections.specs.Shown.{at_row, rises}

-- a loop that keeps some

kept_first : (p : ShownPrice → Bool) (is : Bool) (x : ShownPrice) (xs : List ShownPrice) → p x ≡ is → filter p (x ∷ xs) ≡ kept_if is x ++ filter p xs
kept_first p true x xs h = rw h refl
kept_first p false x xs h = rw h refl

pub kept_on : (p : ShownPrice → Bool) (xs : List ShownPrice) (i : ℕ) (x : ShownPrice) (is : Bool) (kept more whole : List ShownPrice) → i < length xs → x ≡ get_or xs i x → is ≡ p x → more ≡ kept ++ kept_if is x
    → kept ++ filter p (drop i xs) ≡ whole → more ++ filter p (drop (i + 1) xs) ≡ whole
kept_on p xs i x is kept more whole below at_i test k h =
    let F : List ShownPrice → List ShownPrice = λ ys. kept ++ filter p ys in
    ap (λ (l : List ShownPrice). l ++ filter p (drop (i + 1) xs)) k
    ∙ (append_assoc kept (kept_if is x) (filter p (drop (i + 1) xs))
    ∙ (ap (λ (l : List ShownPrice). kept ++ l) (sym (kept_first p is x (drop (i + 1) xs) (sym test)))
    ∙ (ap (λ (y : ShownPrice). F (y ∷ drop (i + 1) xs)) at_i
    ∙ (sym (at_drop_more F xs i x below) ∙ h))))

-- rows that rise

both_true : (a b : Bool) → (a && b) ≡ true → (a ≡ true) × (b ≡ true)
both_true true true h = (refl, refl)
both_true true false h = (refl, h)
both_true false b h = absurd (true≢false (sym h))

is_within : (a b : ℕ) → nat_le a b ≡ true → a ≤ b
is_within a b h = grind (arith, nat_tests)

least : (low : ℕ) (ps : List ShownPrice) (i : ℕ) (d : ShownPrice) → rises low ps ≡ true → i < length ps → low ≤ (get_or ps i d).row
least low [] i d r h = absurd (omega (arith, h))
least low (x ∷ xs) zero d r h = is_within low x.row (both_true (nat_le low x.row) (rises x.row xs) r).0
least low (x ∷ xs) (suc i) d r h =
    let b = both_true (nat_le low x.row) (rises x.row xs) r in
    let l = least x.row xs i d b.1 (omega (arith, h)) in
    let m = is_within low x.row b.0 in
    omega (arith, l, m)

pub rises_far : (low : ℕ) (ps : List ShownPrice) → rises low ps ≡ true → IsNonDecreasingBy (λ (x : ShownPrice). x.row) ps
rises_far low [] r i j d h m = absurd (omega (arith, m))
rises_far low (x ∷ xs) r zero zero d h m = omega arith
rises_far low (x ∷ xs) r zero (suc j) d h m = least x.row xs j d (both_true (nat_le low x.row) (rises x.row xs) r).1 (omega (arith, m))
rises_far low (x ∷ xs) r (suc i) zero d h m = absurd (omega (arith, h))
rises_far low (x ∷ xs) r (suc i) (suc j) d h m = rises_far x.row xs (both_true (nat_le low x.row) (rises x.row xs) r).1 i j d (omega (arith, h)) (omega (arith, m))

-- none of the row stands before the first that is not below it, or from the first on that is beyond it

is_below : (a b : ℕ) → ltb a b ≡ true → (a == b) ≡ false
is_below a b h = grind (arith, nat_tests)

is_beyond : (a b : ℕ) → leb a b ≡ false → (a == b) ≡ false
is_beyond a b h = grind (arith, nat_tests)

pub none_before : (row : ℕ) (ps : List ShownPrice) (i : ℕ) → i ≤ length ps → AllWithin (λ (x : ShownPrice). ltb x.row row ≡ true) ps 0 i → at_row row (drop i ps) ≡ at_row row ps
none_before row [] zero l all = refl
none_before row [] (suc i) l all = refl
none_before row (x ∷ xs) zero l all = refl
none_before row (x ∷ xs) (suc i) l all =
    let below = is_below x.row row (all 0 x (omega arith) (omega arith)) in
    rw below (none_before row xs i (omega (arith, l)) (λ k d a b. all (suc k) d (omega arith) (omega (arith, b))))

pub none_behind : (row : ℕ) (ps : List ShownPrice) (i : ℕ) → AllWithin (λ (x : ShownPrice). leb x.row row ≡ false) ps i (length ps) → at_row row (take i ps) ≡ at_row row ps
none_behind row [] zero all = refl
none_behind row [] (suc i) all = refl
none_behind row (x ∷ xs) zero all =
    let beyond = is_beyond x.row row (all 0 x (omega arith) (omega arith)) in
    rw beyond (none_behind row xs zero (λ k d a b. all (suc k) d (omega arith) (omega (arith, b))))
none_behind row (x ∷ xs) (suc i) all =
    ap (λ (l : List ShownPrice). cond (x.row == row) (x ∷ l) l) (none_behind row xs i (λ k d a b. all (suc k) d (omega (arith, a)) (omega (arith, b))))
