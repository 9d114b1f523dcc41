-- What is found, and what is left over.
use Rattle.std.proofs.Common.{◌≡◌, inl, inr, ℕ, suc, ◌+◌, ◌<◌, ◌||◌, not, Bool, true, false, List, [], ◌∷◌, ◌++◌, length, drop, replicate, Option, None, Some, if◌then◌else◌, refl, sym, ap, subst, ◌∙◌, arith, length-append, length-drop}
use Rattle.std.specs.Prelude.{bytes_eq}
use Rattle.std.specs.List.{list_all, list_any}
use Rattle.std.proofs.lemmas.Bool.{true≢false}
use Rattle.std.proofs.lemmas.List.{length-replicate}
use Rattle.std.proofs.lemmas.Slice.Eq.{bytes_eq-Decides}
use Rattle.desk_log.specs.declared.owed.Owed.{Owed}
use Rattle.desk_log.specs.Absent.{FoundAreThere, IsPart, NoneIsLeft, PartIsFound, found_by, first_left, found_in, picked, place_from, taken_by, taken_in}
use Rattle.desk_log.specs.Comparing.{is_owed, owed_texts}
use Rattle.desk_log.specs.Numbered.{Logged}

-- nothing is picked where nothing is found

none_picked : (os : List Owed) → picked (replicate (length os) false) os ≡ []
none_picked [] = refl
none_picked (o ∷ os) = none_picked os

-- what stands at a place that was found

pub record IsPlaced (text : List ℕ) (os : List Owed) (k n : ℕ) : Type 0 where
  pub at : ℕ
  pub is : n ≡ k + at
  pub low : at < length os
  pub picks : (fs : List Bool) → owed_texts (picked (replicate at false ++ true ∷ fs) os) ≡ text ∷ owed_texts (picked fs (drop (at + 1) os))

some_is : (a b : ℕ) → Some a ≡ Some b → a ≡ b
some_is a b e = ap (λ (o : Option ℕ). value_of o) e
  where
    value_of : Option ℕ → ℕ
    value_of None = 0
    value_of (Some n) = n

placed_here : (text : List ℕ) (o : Owed) (os : List Owed) (k n : ℕ) → o.text.items ≡ text → Some k ≡ Some n → IsPlaced text (o ∷ os) k n
placed_here text o os k n same is =
    let e = some_is k n is in
    record { at = 0; is = omega (arith, e); low = omega arith; picks = λ fs. ap (λ (t : List ℕ). t ∷ owed_texts (picked fs os)) same }

placed_behind : (text : List ℕ) (o : Owed) (os : List Owed) (k n : ℕ) → IsPlaced text os (k + 1) n → IsPlaced text (o ∷ os) k n
placed_behind text o os k n later =
    let e = later.is in
    let l = later.low in
    let next : suc later.at + 1 ≡ suc (later.at + 1) = omega arith in
    record {
      at = suc later.at;
      is = omega (arith, e);
      low = omega (arith, l);
      picks = λ fs. later.picks fs ∙ sym (ap (λ (j : ℕ). text ∷ owed_texts (picked fs (drop j (o ∷ os)))) next);
    }

pub placed : (text : List ℕ) (os : List Owed) (k n : ℕ) → place_from k text os ≡ Some n → IsPlaced text os k n
placed text [] k n is = absurd (cc)
placed text (o ∷ os) k n is = by (bytes_eq o.text.items text) refl is (placed text os (k + 1) n)
  where
    by : (b : Bool) → bytes_eq o.text.items text ≡ b → (if b then Some k else place_from (k + 1) text os) ≡ Some n → (place_from (k + 1) text os ≡ Some n → IsPlaced text os (k + 1) n) → IsPlaced text (o ∷ os) k n
    by true e h rec = placed_here text o os k n ((bytes_eq-Decides o.text.items text).0 e) h
    by false e h rec = placed_behind text o os k n (rec h)

-- Of each it is known, and what is found is what is not left over.

abbrev Known : List (List ℕ) → List Owed → Type 0
Known ts os = (length (found_in ts os) ≡ length os) × (length (taken_in ts os) ≡ length ts) × (owed_texts (picked (found_in ts os) os) ≡ picked (taken_in ts os) ts)

abbrev KnownBy : Option ℕ → List ℕ → List (List ℕ) → List Owed → Type 0
KnownBy p t ts os =
    (length (found_by p (found_in ts) os) ≡ length os) × (length (taken_by p (taken_in ts) os) ≡ suc (length ts))
    × (owed_texts (picked (found_by p (found_in ts) os) os) ≡ picked (taken_by p (taken_in ts) os) (t ∷ ts))

known_here : (t : List ℕ) (ts : List (List ℕ)) (os : List Owed) (k : ℕ) → IsPlaced t os 0 k → Known ts (drop (k + 1) os) → KnownBy (Some k) t ts os
known_here t ts os k w later =
    let e : k ≡ w.at = let i = w.is in omega (arith, i) in
    let l = w.low in
    let many = later.0 in
    let fs = found_in ts (drop (k + 1) os) in
    let long : length (replicate k false ++ true ∷ fs) ≡ length os = omega (arith, length-append (replicate k false) (true ∷ fs), length-replicate k false, length-drop (k + 1) os, many, e, l) in
    let picks : owed_texts (picked (replicate k false ++ true ∷ fs) os) ≡ t ∷ owed_texts (picked fs (drop (k + 1) os)) =
    subst (λ (j : ℕ). owed_texts (picked (replicate j false ++ true ∷ fs) os) ≡ t ∷ owed_texts (picked fs (drop (j + 1) os))) (sym e) (w.picks fs) in
    (long, ap suc later.1, picks ∙ ap (λ (x : List (List ℕ)). t ∷ x) later.2)

pub found_are_there : FoundAreThere
found_are_there [] os = (length-replicate (length os) false, refl, ap owed_texts (none_picked os))
found_are_there (t ∷ ts) os = by (place_from 0 t os) refl (found_are_there ts)
  where
    by : (p : Option ℕ) → place_from 0 t os ≡ p → ((os : List Owed) → Known ts os) → KnownBy p t ts os
    by None e rec = let k = rec os in (k.0, ap suc k.1, k.2)
    by (Some n) e rec = known_here t ts os n (placed t os 0 n e) (rec (drop (n + 1) os))

-- A part of what is owed is found.

longer : (ts : List (List ℕ)) (o : Owed) (os : List Owed) → IsPart ts os → IsPart ts (o ∷ os)
longer [] o os p = tt
longer (t ∷ ts) o os p = inr p

shorter : (t : List ℕ) (ts : List (List ℕ)) (os : List Owed) → IsPart (t ∷ ts) os → IsPart ts os
shorter t ts [] p = absurd p
shorter t ts (o ∷ os) (inl h) = longer ts o os h.1
shorter t ts (o ∷ os) (inr h) = longer ts o os (shorter t ts os h)

pub record IsFirst (t : List ℕ) (ts : List (List ℕ)) (os : List Owed) (k : ℕ) : Type 0 where
  pub at : ℕ
  pub is : place_from k t os ≡ Some (k + at)
  pub rest : IsPart ts (drop (at + 1) os)

first_here : (t : List ℕ) (ts : List (List ℕ)) (o : Owed) (os : List Owed) (k : ℕ) → IsPart (t ∷ ts) (o ∷ os) → bytes_eq o.text.items t ≡ true → IsFirst t ts (o ∷ os) k
first_here t ts o os k p e =
    let same : k + 0 ≡ k = omega arith in
    record {
      at = 0;
      is = ap (λ (b : Bool). if b then Some k else place_from (k + 1) t os) e ∙ ap Some (sym same);
      rest = by p;
    }
  where
    by : IsPart (t ∷ ts) (o ∷ os) → IsPart ts os
    by (inl h) = h.1
    by (inr h) = shorter t ts os h

first_behind : (t : List ℕ) (ts : List (List ℕ)) (o : Owed) (os : List Owed) (k : ℕ) → bytes_eq o.text.items t ≡ false → IsFirst t ts os (k + 1) → IsFirst t ts (o ∷ os) k
first_behind t ts o os k e f =
    let same : k + 1 + f.at ≡ k + suc f.at = omega arith in
    let next : suc f.at + 1 ≡ suc (f.at + 1) = omega arith in
    record {
      at = suc f.at;
      is = ap (λ (b : Bool). if b then Some k else place_from (k + 1) t os) e ∙ (f.is ∙ ap Some same);
      rest = subst (λ (j : ℕ). IsPart ts (drop j (o ∷ os))) (sym next) f.rest;
    }

first : (t : List ℕ) (ts : List (List ℕ)) (os : List Owed) (k : ℕ) → IsPart (t ∷ ts) os → IsFirst t ts os k
first t ts [] k p = absurd p
first t ts (o ∷ os) k p = by (bytes_eq o.text.items t) refl p (first t ts os (k + 1))
  where
    by : (b : Bool) → bytes_eq o.text.items t ≡ b → IsPart (t ∷ ts) (o ∷ os) → (IsPart (t ∷ ts) os → IsFirst t ts os (k + 1)) → IsFirst t ts (o ∷ os) k
    by true e h rec = first_here t ts o os k h e
    by false e (inl h) rec = absurd (true≢false (sym ((bytes_eq-Decides o.text.items t).1 (sym h.0)) ∙ e))
    by false e (inr h) rec = first_behind t ts o os k e (rec h)

pub part_is_found : PartIsFound
part_is_found [] os p = refl
part_is_found (t ∷ ts) os p =
    let f = first t ts os 0 p in
    let same : 0 + f.at ≡ f.at = omega arith in
    ap (λ (o : Option ℕ). list_all (λ b. b) (taken_by o (taken_in ts) os)) (f.is ∙ ap Some same) ∙ part_is_found ts (drop (f.at + 1) os) f.rest

-- no message that is left over has a text where none is named

pub none_is_left : NoneIsLeft
none_is_left log [] o e = refl
none_is_left log (l ∷ ls) o e = by (is_owed log l.1 o) e (none_is_left log ls o)
  where
    by : (b : Bool) → (if b then Some l else first_left log ls o) ≡ None → (first_left log ls o ≡ None → list_any (λ (x : Logged). is_owed log x.1 o) ls ≡ false) → (b || list_any (λ (x : Logged). is_owed log x.1 o) ls) ≡ false
    by true h rec = absurd (cc)
    by false h rec = rec h
