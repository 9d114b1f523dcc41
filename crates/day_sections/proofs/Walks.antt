-- Parts for each of some things, added one by one.
use Rattle.std.specs.Prelude.{◌≡◌, ℕ, suc, ◌+◌, ◌-◌, ◌<◌, ◌≤◌, Bool, true, false, List, [], ◌∷◌, ◌++◌, length, filter, drop, take, cond, nat_le, if◌then◌else◌, refl}
use Rattle.std.specs.List.{flat_map}
use Rattle.std.proofs.lemmas.Bool.Decides.{nat_tests}
use Rattle.std.proofs.Common.{sym, ◌∙◌, ap, arith, append_assoc, get_or}
use Rattle.std.proofs.lemmas.Bool.Decides.{nat_tests}
use Rattle.std.proofs.lemmas.List.{at_drop_more, at_drop_all, take_all}
use Rattle.page_text.specs.Laws.{PartsFollowParts}
use Rattle.page_text.specs.Parts.{Part, with_part, with_parts}
use Rattle.day_events.specs.declared.event.Event.{Event}
use Rattle.day_tables.specs.Parts.{each_from, framed}
use Rattle.day_sections.specs.Rooms.{is_first_asked, kept_if, room_after, rooms_from}

-- Parts behind parts.

pub follow : PartsFollowParts
follow page [] qs = refl
follow page (p ∷ ps) qs = follow (with_part page p) ps qs

-- parts between a head and an end
pub in_frame : (page one more last : List ℕ) (head : Part) (ps : List Part) (end : Part)
    → one ≡ with_part page head → more ≡ with_parts one ps → last ≡ with_part more end → last ≡ with_parts page (framed head ps end)
in_frame page one more last head ps end h k l =
    l ∙ (ap (λ (x : List ℕ). with_part x end) (k ∙ ap (λ (x : List ℕ). with_parts x ps) h) ∙ sym (follow (with_part page head) ps (end ∷ [])))

-- some parts, and then others
pub in_turn : (page one last : List ℕ) (ps qs : List Part) → one ≡ with_parts page ps → last ≡ with_parts one qs → last ≡ with_parts page (ps ++ qs)
in_turn page one last ps qs h k = k ∙ (ap (λ (x : List ℕ). with_parts x qs) h ∙ sym (follow page ps qs))

-- a loop over things, each with its parts

pub goes_on : {X : Type 0} (f : X → List Part) (xs : List X) (i : ℕ) (x : X) (page more whole : List ℕ) → i < length xs → x ≡ get_or xs i x → more ≡ with_parts page (f x)
    → with_parts page (flat_map f (drop i xs)) ≡ whole → with_parts more (flat_map f (drop (i + 1) xs)) ≡ whole
goes_on {X} f xs i x page more whole below is e h =
    let F : List X → List ℕ = λ ys. with_parts page (flat_map f ys) in
    ap (λ (p : List ℕ). with_parts p (flat_map f (drop (i + 1) xs))) e
    ∙ (sym (follow page (f x) (flat_map f (drop (i + 1) xs)))
    ∙ (ap (λ (y : X). F (y ∷ drop (i + 1) xs)) is
    ∙ (sym (at_drop_more F xs i x below) ∙ h)))

pub goes_out : {X : Type 0} (f : X → List Part) (xs : List X) (i : ℕ) (page whole : List ℕ) → length xs ≤ i → with_parts page (flat_map f (drop i xs)) ≡ whole → page ≡ whole
goes_out {X} f xs i page whole past h =
    let F : List X → List ℕ = λ ys. with_parts page (flat_map f ys) in
    sym (at_drop_all F xs i past) ∙ h

-- a loop over numbers

pub counts_on : (f : ℕ → List Part) (k n : ℕ) (page more whole : List ℕ) → k < n → more ≡ with_parts page (f k)
    → with_parts page (each_from f k (n - k)) ≡ whole → with_parts more (each_from f (k + 1) (n - (k + 1))) ≡ whole
counts_on f k n page more whole below e h =
    let longer : n - k ≡ suc (n - (k + 1)) = omega arith in
    ap (λ (p : List ℕ). with_parts p (each_from f (k + 1) (n - (k + 1)))) e
    ∙ (sym (follow page (f k) (each_from f (k + 1) (n - (k + 1))))
    ∙ (ap (λ (j : ℕ). with_parts page (each_from f k j)) (sym longer) ∙ h))

pub counts_out : (f : ℕ → List Part) (k n : ℕ) (page whole : List ℕ) → n ≤ k → with_parts page (each_from f k (n - k)) ≡ whole → page ≡ whole
counts_out f k n page whole past h =
    let none : n - k ≡ 0 = omega arith in
    ap (λ (j : ℕ). with_parts page (each_from f k j)) (sym none) ∙ h

-- a loop that picks

picked_first : (p : Event → Bool) (is : Bool) (e : Event) (es : List Event) → p e ≡ is → filter p (e ∷ es) ≡ kept_if is e ++ filter p es
picked_first p true e es h = rw h refl
picked_first p false e es h = rw h refl

pub picks_on : (p : Event → Bool) (es : List Event) (i : ℕ) (e : Event) (is : Bool) (kept more whole : List Event) → i < length es → e ≡ get_or es i e → is ≡ p e → more ≡ kept ++ kept_if is e
    → kept ++ filter p (drop i es) ≡ whole → more ++ filter p (drop (i + 1) es) ≡ whole
picks_on p es i e is kept more whole below at_i test k h =
    let F : List Event → List Event = λ ys. kept ++ filter p ys in
    ap (λ (l : List Event). l ++ filter p (drop (i + 1) es)) k
    ∙ (append_assoc kept (kept_if is e) (filter p (drop (i + 1) es))
    ∙ (ap (λ (l : List Event). kept ++ l) (sym (picked_first p is e (drop (i + 1) es) (sym test)))
    ∙ (ap (λ (y : Event). F (y ∷ drop (i + 1) es)) at_i
    ∙ (sym (at_drop_more F es i e below) ∙ h))))

pub rooms_on : (es : List Event) (i : ℕ) (e : Event) (last next : ℕ) (is : Bool) (kept more whole : List Event) → i < length es → e ≡ get_or es i e → next ≡ room_after last e.what → is ≡ is_first_asked last e.what
    → more ≡ kept ++ kept_if is e → kept ++ rooms_from last (drop i es) ≡ whole → more ++ rooms_from next (drop (i + 1) es) ≡ whole
rooms_on es i e last next is kept more whole below at_i n test k h =
    let F : List Event → List Event = λ ys. kept ++ rooms_from last ys in
    let rest = drop (i + 1) es in
    ap (λ (l : List Event). l ++ rooms_from next rest) k
    ∙ (ap (λ (m : ℕ). (kept ++ kept_if is e) ++ rooms_from m rest) n
    ∙ (ap (λ (b : Bool). (kept ++ kept_if b e) ++ rooms_from (room_after last e.what) rest) test
    ∙ (append_assoc kept (kept_if (is_first_asked last e.what) e) (rooms_from (room_after last e.what) rest)
    ∙ (ap (λ (y : Event). F (y ∷ rest)) at_i
    ∙ (sym (at_drop_more F es i e below) ∙ h)))))

-- as many as there are, at most

pub all_taken : {X : Type 0} (n : ℕ) (xs : List X) → length xs ≤ n → xs ≡ take n xs
all_taken n xs few = sym (take_all n xs few)

-- What is picked of what is kept, where nothing else would be picked.

skip_step : (p k : Event → Bool) (e : Event) (es : List Event) (is : Bool) → k e ≡ is → (k e ≡ false → p e ≡ false) → filter p (filter k es) ≡ filter p es
    → filter p (filter k (e ∷ es)) ≡ filter p (e ∷ es)
skip_step p k e es true kept skips same = rw kept (ap (λ (l : List Event). cond (p e) (e ∷ l) l) same)
skip_step p k e es false late skips same = rw (late, skips late) same

pub skipped : (p k : Event → Bool) → ((e : Event) → k e ≡ false → p e ≡ false) → (es : List Event) → filter p (filter k es) ≡ filter p es
skipped p k skips [] = refl
skipped p k skips (e ∷ es) = skip_step p k e es (k e) refl (skips e) (skipped p k skips es)

-- a choice by a number that is above a bound

chosen : {X : Type 0} (is : Bool) (a b : X) → is ≡ false → b ≡ (if is then a else b)
chosen true a b h = cc
chosen false a b h = refl

pub above : {X : Type 0} (n most : ℕ) (a b : X) → most < n → b ≡ (if nat_le n most then a else b)
above n most a b more = chosen (nat_le n most) a b (grind (arith, nat_tests))
