-- Lists of a thing for each part of the day, filled in one pass over the trades.
use Rattle.std.specs.Prelude.{◌≡◌, ◌⊎◌, ℕ, suc, ◌+◌, ◌-◌, ◌*◌, ◌^◌, ◌<◌, ◌≤◌, Bool, Option, None, Some, List, [], ◌∷◌, length, drop, get_or, set, max, refl, if◌then◌else◌, ◌==◌}
use Rattle.std.proofs.Math.Nat.{min-le_right}
use Rattle.std.proofs.lemmas.Nat.{div_below}
use Rattle.std.proofs.lemmas.List.Sums.{sum_by-cons}
use Rattle.std.proofs.Common.{sym, ◌∙◌, ap, subst, arith, inl, inr, Result, Ok, Err, IsErrAnd, OnOk}
use Rattle.std.proofs.lemmas.Bool.{cases_eq, eq-eqb, ne_eqb}
use Rattle.std.proofs.lemmas.List.{at_drop_more, length-set, get_or-set_same, get_or-set_other}
use Rattle.std.proofs.lemmas.Option.{slice_get-get_or, get_or_from_slice_get}
use Rattle.instrument_charts.specs.declared.deals.Deal.{Deal}
use Rattle.chart_axes.specs.declared.range.Range.{Range}
use Rattle.chart_axes.specs.declared.scale.Scale.{Scale}
use Rattle.instrument_charts.specs.Glyphs.{in_part, most_parts, range_in}
use Rattle.chart_axes.specs.Ranges.{covered}
use Rattle.chart_axes.specs.Scales.{length_of, part_of, passed}
use Rattle.instrument_charts.specs.Values.{HasEach}
use Rattle.instrument_charts.specs.Volumes.{bar_parts, counted, counted_at, greatest_from, most_bars, pixels, stack_parts, volume_in}

-- what is read within a list is the same by any default
pub within : {X : Type 0} (xs : List X) (i : ℕ) (a b : X) → i < length xs → get_or xs i a ≡ get_or xs i b
within xs i a b below = sym (get_or_from_slice_get xs i (get_or xs i a) b (slice_get-get_or xs i a below))

-- one thing is changed

made_at : {X : Type 0} (x : X) (i k : ℕ) (before after : ℕ → X) (xs : List X) (y : X) → i < length xs → y ≡ after i → ((j : ℕ) → (j ≡ i → ⊥) → after j ≡ before j) → get_or xs k x ≡ before k
    → (k ≡ i) ⊎ (k ≡ i → ⊥) → get_or (set xs i y) k x ≡ after k
made_at x i k before after xs y below is others h (inl same) = ap (λ (j : ℕ). get_or (set xs i y) j x) same ∙ (get_or-set_same xs i y x below ∙ (is ∙ ap after (sym same)))
made_at x i k before after xs y below is others h (inr other) = get_or-set_other xs i k y x other ∙ (h ∙ sym (others k other))

pub made_on : {X : Type 0} (x : X) (n i : ℕ) (before after : ℕ → X) (xs : List X) (y : X) → i < n → y ≡ after i → ((j : ℕ) → (j ≡ i → ⊥) → after j ≡ before j) → HasEach x before n xs → HasEach x after n (set xs i y)
made_on x n i before after xs y below is others h = (
  length-set xs i y ∙ h.0,
  λ k low. made_at x i k before after xs y (subst (λ (m : ℕ). i < m) (sym h.0) below) is others (h.1 k low) (cases_eq k i),
)

-- a part is one of those

pub part_below : (s : Scale) (t : ℕ) → part_of s most_parts t < most_parts
part_below s t = div_below (most_parts * passed s t) (length_of s + 1) most_parts (omega arith) (omega (arith, min-le_right (t - s.first) (length_of s)))

pub bar_below : (s : Scale) (t : ℕ) → part_of s most_bars t < most_bars
bar_below s t = div_below (most_bars * passed s t) (length_of s + 1) most_bars (omega arith) (omega (arith, min-le_right (t - s.first) (length_of s)))

-- a test that holds, and one that does not

pub picked : {X : Type 0} (a b : ℕ) (x y : X) → a ≡ b → (if a == b then x else y) ≡ x
picked a b x y h = rw (eq-eqb a b h) refl

pub passed_by : {X : Type 0} (a b : ℕ) (x y : X) → (a ≡ b → ⊥) → (if a == b then x else y) ≡ y
passed_by a b x y h = rw (ne_eqb a b h) refl

-- ranges, a trade earlier

ahead : (s : Scale) (ds : List Deal) (at k : ℕ) (d : Deal) → 0 < at → at - 1 < length ds → d ≡ get_or ds (at - 1) d → range_in s k (drop (at - 1) ds) ≡ in_part s k d (range_in s k (drop at ds))
ahead s ds at k d more below is =
    let next : at - 1 + 1 ≡ at = omega arith in
    at_drop_more (λ (l : List Deal). range_in s k l) ds (at - 1) d below
    ∙ (ap (λ (e : Deal). in_part s k e (range_in s k (drop (at - 1 + 1) ds))) (sym is)
    ∙ ap (λ (j : ℕ). in_part s k d (range_in s k (drop j ds))) next)

pub ranges_on : (s : Scale) (ds : List Deal) (at p : ℕ) (d : Deal) (was : Option Range) (r : Range) (xs : List (Option Range)) → 0 < at → at - 1 < length ds → d ≡ get_or ds (at - 1) d → p ≡ part_of s most_parts d.moment → p < most_parts
    → was ≡ get_or xs p was → r ≡ covered d.price was → HasEach None (λ k. range_in s k (drop at ds)) most_parts xs → HasEach None (λ k. range_in s k (drop (at - 1) ds)) most_parts (set xs p (Some r))
ranges_on s ds at p d was r xs more below is part low read made h =
    let later = λ (k : ℕ). range_in s k (drop at ds) in
    let from : was ≡ later p = read ∙ (within xs p was None (subst (λ (m : ℕ). p < m) (sym h.0) low) ∙ h.1 p low) in
    made_on None most_parts p later (λ k. range_in s k (drop (at - 1) ds)) xs (Some r) low
    (ap (λ (q : Range). Some q) (made ∙ ap (covered d.price) from) ∙ (sym (picked (part_of s most_parts d.moment) p (Some (covered d.price (later p))) (later p) (sym part)) ∙ sym (ahead s ds at p d more below is)))
    (λ j other. ahead s ds at j d more below is ∙ passed_by (part_of s most_parts d.moment) j (Some (covered d.price (later j))) (later j) (λ e. other (sym e ∙ sym part)))
    h

-- volumes, a trade earlier

volume_first : (s : Scale) (requests : Bool) (k : ℕ) (d : Deal) (ds : List Deal) → volume_in s requests (d ∷ ds) k ≡ counted_at s requests k d + volume_in s requests ds k
volume_first s requests k d ds = sum_by-cons (counted_at s requests k) d ds

volume_ahead : (s : Scale) (requests : Bool) (ds : List Deal) (at k : ℕ) (d : Deal) → 0 < at → at - 1 < length ds → d ≡ get_or ds (at - 1) d → volume_in s requests (drop (at - 1) ds) k ≡ counted_at s requests k d + volume_in s requests (drop at ds) k
volume_ahead s requests ds at k d more below is =
    let next : at - 1 + 1 ≡ at = omega arith in
    at_drop_more (λ (l : List Deal). volume_in s requests l k) ds (at - 1) d below
    ∙ (ap (λ (e : Deal). volume_in s requests (e ∷ drop (at - 1 + 1) ds) k) (sym is)
    ∙ (volume_first s requests k d (drop (at - 1 + 1) ds)
    ∙ ap (λ (j : ℕ). counted_at s requests k d + volume_in s requests (drop j ds) k) next))

bound_at : (ds : List Deal) (at p : ℕ) (was q : ℕ) (xs : List ℕ) → 0 < at → q < 2 ^ 64 → was ≡ get_or xs p was → p < length xs → get_or xs p 0 + at * 2 ^ 64 ≤ length ds * 2 ^ 64 → (k : ℕ) → get_or xs k 0 + at * 2 ^ 64 ≤ length ds * 2 ^ 64
    → (k ≡ p) ⊎ (k ≡ p → ⊥) → get_or (set xs p (was + q)) k 0 + (at - 1) * 2 ^ 64 ≤ length ds * 2 ^ 64
bound_at ds at p was q xs more small read low here k there (inl same) =
    let new : get_or (set xs p (was + q)) k 0 ≡ was + q = ap (λ (j : ℕ). get_or (set xs p (was + q)) j 0) same ∙ get_or-set_same xs p (was + q) 0 low in
    let old : was ≡ get_or xs p 0 = read ∙ within xs p was 0 low in
    omega (arith, new, old, here, more, small)
bound_at ds at p was q xs more small read low here k there (inr other) =
    let new : get_or (set xs p (was + q)) k 0 ≡ get_or xs k 0 = get_or-set_other xs p k (was + q) 0 other in
    omega (arith, new, there, more)

pub volumes_on : (s : Scale) (requests : Bool) (ds : List Deal) (at p : ℕ) (d : Deal) (was now : ℕ) (xs : List ℕ) → 0 < at → at - 1 < length ds → d ≡ get_or ds (at - 1) d → p ≡ part_of s most_bars d.moment → p < most_bars
    → was ≡ get_or xs p was → now ≡ was + counted requests d → HasEach 0 (volume_in s requests (drop at ds)) most_bars xs → HasEach 0 (volume_in s requests (drop (at - 1) ds)) most_bars (set xs p now)
volumes_on s requests ds at p d was now xs more below is part low read made h =
    let later = volume_in s requests (drop at ds) in
    let from : was ≡ later p = read ∙ (within xs p was 0 (subst (λ (m : ℕ). p < m) (sym h.0) low) ∙ h.1 p low) in
    let here : counted_at s requests p d ≡ counted requests d = picked (part_of s most_bars d.moment) p (counted requests d) 0 (sym part) in
    let ahead_p = volume_ahead s requests ds at p d more below is in
    made_on 0 most_bars p later (volume_in s requests (drop (at - 1) ds)) xs now low
    (omega (arith, made, from, here, ahead_p))
    (λ j other. let none : counted_at s requests j d ≡ 0 = passed_by (part_of s most_bars d.moment) j (counted requests d) 0 (λ e. other (sym e ∙ sym part)) in
    let ahead_j = volume_ahead s requests ds at j d more below is in
    omega (arith, none, ahead_j))
    h

pub volumes_bound : (ds : List Deal) (at p : ℕ) (was q : ℕ) (xs : List ℕ) → 0 < at → q < 2 ^ 64 → was ≡ get_or xs p was → length xs ≡ most_bars → p < most_bars → ((k : ℕ) → k < most_bars → get_or xs k 0 + at * 2 ^ 64 ≤ length ds * 2 ^ 64)
    → (k : ℕ) → k < most_bars → get_or (set xs p (was + q)) k 0 + (at - 1) * 2 ^ 64 ≤ length ds * 2 ^ 64
volumes_bound ds at p was q xs more small read long low h k below = bound_at ds at p was q xs more small read (subst (λ (m : ℕ). p < m) (sym long) low) (h p low) k (h k below) (cases_eq k p)

-- the greatest, a part earlier
pub greatest_on : (f : ℕ → ℕ) (at was now d : ℕ) (xs : List ℕ) → 0 < at → at ≤ most_bars → HasEach 0 f most_bars xs → now ≡ max (get_or xs (at - 1) d) was → was ≡ greatest_from f at (most_bars - at)
    → now ≡ greatest_from f (at - 1) (most_bars - (at - 1))
greatest_on f at was now d xs more most h made e =
    let low : at - 1 < most_bars = omega arith in
    let next : at - 1 + 1 ≡ at = omega arith in
    let longer : most_bars - (at - 1) ≡ suc (most_bars - at) = omega arith in
    made
    ∙ (ap (λ (n : ℕ). max n was) (within xs (at - 1) d 0 (subst (λ (m : ℕ). at - 1 < m) (sym h.0) low) ∙ h.1 (at - 1) low)
    ∙ (ap (λ (n : ℕ). max (f (at - 1)) n) (e ∙ ap (λ (j : ℕ). greatest_from f j (most_bars - at)) (sym next))
    ∙ ap (λ (n : ℕ). greatest_from f (at - 1) n) (sym longer)))

-- an error says nothing of what was made
pub err_says_nothing : {T E : Type 0} (Q : E → Type 0) (r : Result T E) (P : Type 0) → IsErrAnd r Q → OnOk r P
err_says_nothing Q (Ok x) P h = absurd h
err_says_nothing Q (Err y) P h = tt

-- the bars of a part
pub bar_shown : (greatest k a r left book upper : ℕ) (f g : ℕ → ℕ) → a ≡ f k → r ≡ g k → left ≡ a - r → book ≡ pixels greatest left → upper ≡ pixels greatest r → stack_parts k book upper ≡ bar_parts greatest f g k
bar_shown greatest k a r left book upper f g all requests is lower top =
    let b : book ≡ pixels greatest (f k - g k) = lower ∙ ap (pixels greatest) (is ∙ (λ j. all j - requests j)) in
    let u : upper ≡ pixels greatest (g k) = top ∙ ap (pixels greatest) requests in
    λ j. stack_parts k (b j) (u j)
