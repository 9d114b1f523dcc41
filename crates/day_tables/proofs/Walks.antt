-- Parts added one by one; what is picked, summed and grouped one by one.
use Rattle.std.specs.Prelude.{◌≡◌, ℕ, zero, suc, ◌+◌, ◌-◌, ◌<◌, ◌≤◌, Bool, true, false, List, [], ◌∷◌, ◌++◌, length, filter, drop, cond, refl}
use Rattle.std.specs.List.{sum_by}
use Rattle.std.proofs.Common.{sym, ◌∙◌, ap, subst, arith, append_assoc, append-nil, get_or}
use Rattle.std.proofs.lemmas.List.{at_drop_more, at_drop_all}
use Rattle.std.proofs.lemmas.List.Sums.{sum_by-cons}
use Rattle.page_text.specs.Laws.{PartsFollowParts}
use Rattle.page_text.specs.Parts.{Part, with_part, with_parts}
use Rattle.day_tables.specs.Lists.{kept_if}
use Rattle.day_tables.specs.Parts.{each_from, framed}
use Rattle.day_tables.specs.Values.{grouped_digits, separator}

-- Parts behind parts.

pub follow : PartsFollowParts
follow page [] qs = refl
follow page (p ∷ ps) qs = follow (with_part page p) ps qs

-- parts between a head and an end
pub in_frame : (page one more last : List ℕ) (head : Part) (ps : List Part) (end : Part)
    → one ≡ with_part page head → more ≡ with_parts one ps → last ≡ with_part more end → last ≡ with_parts page (framed head ps end)
in_frame page one more last head ps end h k l =
    l ∙ (ap (λ (x : List ℕ). with_part x end) (k ∙ ap (λ (x : List ℕ). with_parts x ps) h) ∙ sym (follow (with_part page head) ps (end ∷ [])))

-- some parts, and then others
pub in_turn : (page one last : List ℕ) (ps qs : List Part) → one ≡ with_parts page ps → last ≡ with_parts one qs → last ≡ with_parts page (ps ++ qs)
in_turn page one last ps qs h k = k ∙ (ap (λ (x : List ℕ). with_parts x qs) h ∙ sym (follow page ps qs))

-- a loop over numbers

pub counts_on : (f : ℕ → List Part) (k n : ℕ) (page more whole : List ℕ) → k < n → more ≡ with_parts page (f k)
    → with_parts page (each_from f k (n - k)) ≡ whole → with_parts more (each_from f (k + 1) (n - (k + 1))) ≡ whole
counts_on f k n page more whole below e h =
    let longer : n - k ≡ suc (n - (k + 1)) = omega arith in
    ap (λ (p : List ℕ). with_parts p (each_from f (k + 1) (n - (k + 1)))) e
    ∙ (sym (follow page (f k) (each_from f (k + 1) (n - (k + 1))))
    ∙ (ap (λ (j : ℕ). with_parts page (each_from f k j)) (sym longer) ∙ h))

pub counts_out : (f : ℕ → List Part) (k n : ℕ) (page whole : List ℕ) → n ≤ k → with_parts page (each_from f k (n - k)) ≡ whole → page ≡ whole
counts_out f k n page whole past h =
    let none : n - k ≡ 0 = omega arith in
    ap (λ (j : ℕ). with_parts page (each_from f k j)) (sym none) ∙ h

-- a loop that picks

picked_first : {X : Type 0} (p : X → Bool) (is : Bool) (x : X) (xs : List X) → p x ≡ is → filter p (x ∷ xs) ≡ kept_if is x ++ filter p xs
picked_first p true x xs h = rw h refl
picked_first p false x xs h = rw h refl

pub picks_on : {X : Type 0} (p : X → Bool) (xs : List X) (i : ℕ) (x : X) (is : Bool) (kept more whole : List X) → i < length xs → x ≡ get_or xs i x → is ≡ p x → more ≡ kept ++ kept_if is x
    → kept ++ filter p (drop i xs) ≡ whole → more ++ filter p (drop (i + 1) xs) ≡ whole
picks_on {X} p xs i x is kept more whole below at_i test k h =
    let F : List X → List X = λ ys. kept ++ filter p ys in
    ap (λ (l : List X). l ++ filter p (drop (i + 1) xs)) k
    ∙ (append_assoc kept (kept_if is x) (filter p (drop (i + 1) xs))
    ∙ (ap (λ (l : List X). kept ++ l) (sym (picked_first p is x (drop (i + 1) xs) (sym test)))
    ∙ (ap (λ (y : X). F (y ∷ drop (i + 1) xs)) at_i
    ∙ (sym (at_drop_more F xs i x below) ∙ h))))

pub picks_out : {X : Type 0} (p : X → Bool) (xs : List X) (i : ℕ) (kept whole : List X) → length xs ≤ i → kept ++ filter p (drop i xs) ≡ whole → kept ≡ whole
picks_out {X} p xs i kept whole past h =
    let F : List X → List X = λ ys. kept ++ filter p ys in
    sym (append-nil kept) ∙ (sym (at_drop_all F xs i past) ∙ h)

-- a loop that sums

pub sums_on : {X : Type 0} (f : X → ℕ) (xs : List X) (i : ℕ) (x : X) (total more whole : ℕ) → i < length xs → x ≡ get_or xs i x → more ≡ total + f x
    → total + sum_by f (drop i xs) ≡ whole → more + sum_by f (drop (i + 1) xs) ≡ whole
sums_on {X} f xs i x total more whole below is e h =
    let F : List X → ℕ = λ ys. total + sum_by f ys in
    let here : total + sum_by f (x ∷ drop (i + 1) xs) ≡ whole = ap (λ (y : X). F (y ∷ drop (i + 1) xs)) is ∙ (sym (at_drop_more F xs i x below) ∙ h) in
    let parts : sum_by f (x ∷ drop (i + 1) xs) ≡ f x + sum_by f (drop (i + 1) xs) = sum_by-cons f x (drop (i + 1) xs) in
    omega (arith, here, parts, e)

pub sums_out : {X : Type 0} (f : X → ℕ) (xs : List X) (i : ℕ) (total whole : ℕ) → length xs ≤ i → total + sum_by f (drop i xs) ≡ whole → total ≡ whole
sums_out {X} f xs i total whole past h =
    let F : List X → ℕ = λ ys. total + sum_by f ys in
    let end : total + 0 ≡ whole = sym (at_drop_all F xs i past) ∙ h in
    omega (arith, end)

-- a number in groups of three

pub digit_goes_on : (xs : List ℕ) (i d following : ℕ) (out more last whole : List ℕ) → i < length xs → d ≡ get_or xs i d → following ≡ length (drop (i + 1) xs)
    → more ≡ out ++ d ∷ [] → last ≡ more ++ separator following → out ++ grouped_digits (drop i xs) ≡ whole → last ++ grouped_digits (drop (i + 1) xs) ≡ whole
digit_goes_on xs i d following out more last whole below is n e f h =
    let rest = drop (i + 1) xs in
    let F : List ℕ → List ℕ = λ ys. out ++ grouped_digits ys in
    ap (λ (l : List ℕ). l ++ grouped_digits rest) (f ∙ (ap (λ (l : List ℕ). l ++ separator following) e ∙ ap (λ (k : ℕ). (out ++ d ∷ []) ++ separator k) n))
    ∙ (append_assoc (out ++ d ∷ []) (separator (length rest)) (grouped_digits rest)
    ∙ (append_assoc out (d ∷ []) (separator (length rest) ++ grouped_digits rest)
    ∙ (ap (λ (y : ℕ). F (y ∷ rest)) is
    ∙ (sym (at_drop_more F xs i d below) ∙ h))))
