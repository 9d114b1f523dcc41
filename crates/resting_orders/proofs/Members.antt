-- Members of lists, and what is found and picked in them.
use Rattle.std.proofs.Common.{◌≡◌, refl, sym, ap, ◌∙◌, inl, inr, ℕ, ◌+◌, ◌<◌, Bool, true, false, cond, List, [], ◌∷◌, ◌++◌, length, filter, filter_map, find, Option, Some, take, get_or, append_assoc, arith}
use Rattle.std.proofs.lemmas.Bool.{true≢false}
use Rattle.std.proofs.lemmas.List.{take_more}
use Rattle.std.proofs.lemmas.List.Elements.{filter_map-append}
use Rattle.std.specs.List.{cons_option}
use Rattle.venue_rules.proofs.Members.{In}

-- an element that passes is kept

kept_cons : {X : Type 0} (p : X → Bool) (y : X) (ys : List X) (x : X) (b : Bool) → p y ≡ b → p x ≡ true → In x (y ∷ ys) → (In x ys → In x (filter p ys)) → In x (cond b (y ∷ filter p ys) (filter p ys))
kept_cons p y ys x true is e (inl same) rest = inl same
kept_cons p y ys x true is e (inr i) rest = inr (rest i)
kept_cons p y ys x false is e (inl same) rest = absurd (true≢false (sym e ∙ (ap p (sym same) ∙ is)))
kept_cons p y ys x false is e (inr i) rest = rest i

pub In-filter_kept : {X : Type 0} (p : X → Bool) (xs : List X) (x : X) → In x xs → p x ≡ true → In x (filter p xs)
In-filter_kept p [] x i e = absurd i
In-filter_kept p (y ∷ ys) x i e = kept_cons p y ys x (p y) refl e i (λ j. In-filter_kept p ys x j e)

passed_cons : {X : Type 0} (p : X → Bool) (y : X) (ys : List X) (x : X) (b : Bool) → p y ≡ b → (In x (filter p ys) → p x ≡ true) → In x (cond b (y ∷ filter p ys) (filter p ys)) → p x ≡ true
passed_cons p y ys x true is rest (inl same) = ap p (sym same) ∙ is
passed_cons p y ys x true is rest (inr i) = rest i
passed_cons p y ys x false is rest i = rest i

pub filter_passes : {X : Type 0} (p : X → Bool) (xs : List X) (x : X) → In x (filter p xs) → p x ≡ true
filter_passes p [] x i = absurd i
filter_passes p (y ∷ ys) x i = passed_cons p y ys x (p y) refl (filter_passes p ys x) i

-- one of which it is so is found

found_one : {X : Type 0} (p : X → Bool) (y : X) (ys : List X) (x : X) (b : Bool) → p y ≡ b → p x ≡ true → In x (y ∷ ys) → (In x ys → (z : X) × (find p ys ≡ Some z)) → (z : X) × (cond b (Some y) (find p ys) ≡ Some z)
found_one p y ys x true is e i rest = (y, refl)
found_one p y ys x false is e (inl same) rest = absurd (true≢false (sym e ∙ (ap p (sym same) ∙ is)))
found_one p y ys x false is e (inr i) rest = rest i

pub some_found : {X : Type 0} (p : X → Bool) (xs : List X) (x : X) → In x xs → p x ≡ true → (z : X) × (find p xs ≡ Some z)
some_found p [] x i e = absurd i
some_found p (y ∷ ys) x i e = found_one p y ys x (p y) refl e i (λ j. some_found p ys x j e)

-- of the first elements, with one more
pub picked_more : {X Y : Type 0} (h : X → Option Y) (xs : List X) (k : ℕ) (x : X) (before now then : List Y) (o : Option Y) → k < length xs → x ≡ get_or xs k x → now ≡ before ++ filter_map h (take k xs) → o ≡ h x → then ≡ now ++ cons_option o [] → then ≡ before ++ filter_map h (take (k + 1) xs)
picked_more h xs k x before now then o low at_k is same grows =
    let longer : take (k + 1) xs ≡ take k xs ++ x ∷ [] = take_more xs k x low ∙ ap (λ y. take k xs ++ y ∷ []) (sym at_k) in
    grows ∙ (λ j. is j ++ cons_option (same j) [])
    ∙ (append_assoc before (filter_map h (take k xs)) (cons_option (h x) [])
    ∙ ap (λ l. before ++ l) (sym (ap (filter_map h) longer ∙ filter_map-append h (take k xs) (x ∷ []))))
