use Rattle.std.proofs.Common.{◌≡◌, refl, sym, ap, ◌∙◌, ℕ, ◌+◌, ◌<◌, Bool, true, false, not, ◌||◌, cond, get_or, List, [], ◌∷◌, ◌++◌, length, take, drop, find, take_while, Some, None, is_some}
use Rattle.std.specs.List.{list_any}
use Rattle.std.proofs.lemmas.Bool.{or_left, or_right}
use Rattle.std.proofs.lemmas.List.{drop_more, take_more}
use Rattle.std.proofs.lemmas.List.Sums.{take_while-cons}

-- reading an element, between what was read and what is left
pub drop-read : {X : Type 0} (xs : List X) (i : ℕ) (x : X) → i < length xs → x ≡ get_or xs i x → drop i xs ≡ x ∷ drop (i + 1) xs
drop-read xs i x h e = drop_more xs i x h ∙ ap (λ y. y ∷ drop (i + 1) xs) (sym e)

pub take-read : {X : Type 0} (xs : List X) (i : ℕ) (x : X) → i < length xs → x ≡ get_or xs i x → take (i + 1) xs ≡ take i xs ++ x ∷ []
take-read xs i x h e = take_more xs i x h ∙ ap (λ y. take i xs ++ y ∷ []) (sym e)

pub same_some : {X : Type 0} (x y : X) → Some x ≡ Some y → x ≡ y
same_some x y h = ap (λ o. elim o [ None ↦ x | Some z ↦ z ]) h

-- a property of one of two
pub either : {P : Type 0} (a b : Bool) → (a || b) ≡ true → (a ≡ true → P) → (b ≡ true → P) → P
either true b h f g = f refl
either false b h f g = g h

pub found-any : {X : Type 0} (p : X → Bool) (xs : List X) → is_some (find p xs) ≡ list_any p xs
found-any p [] = refl
found-any p (x ∷ xs) = step p x xs (p x) (found-any p xs)
  where
    step : {X : Type 0} (p : X → Bool) (x : X) (xs : List X) (b : Bool) → is_some (find p xs) ≡ list_any p xs → is_some (cond b (Some x) (find p xs)) ≡ (b || list_any p xs)
    step p x xs true k = refl
    step p x xs false k = k

-- an element found by one test may pass another
pub found-also : {X : Type 0} (p t : X → Bool) (xs : List X) (x : X) → find p xs ≡ Some x → t x ≡ true → list_any t xs ≡ true
found-also p t [] x h e = cc
found-also p t (y ∷ ys) x h e = step p t y ys x (p y) h e (found-also p t ys x)
  where
    step : {X : Type 0} (p t : X → Bool) (y : X) (ys : List X) (x : X) (b : Bool) → cond b (Some y) (find p ys) ≡ Some x → t x ≡ true → (find p ys ≡ Some x → t x ≡ true → list_any t ys ≡ true) → (t y || list_any t ys) ≡ true
    step p t y ys x true h e k = or_left (t y) (list_any t ys) (ap t (same_some y x h) ∙ e)
    step p t y ys x false h e k = or_right (t y) (list_any t ys) (k h e)

-- and passes its own
pub found-passes : {X : Type 0} (p : X → Bool) (xs : List X) (x : X) → find p xs ≡ Some x → p x ≡ true
found-passes p [] x h = cc
found-passes p (y ∷ ys) x h = step p y ys x (p y) refl h (found-passes p ys x)
  where
    step : {X : Type 0} (p : X → Bool) (y : X) (ys : List X) (x : X) (b : Bool) → p y ≡ b → cond b (Some y) (find p ys) ≡ Some x → (find p ys ≡ Some x → p x ≡ true) → p x ≡ true
    step p y ys x true e h k = ap p (sym (same_some y x h)) ∙ e
    step p y ys x false e h k = k h

-- the prefix before the first that passes stays with a longer list
pub while-stays : {X : Type 0} (p : X → Bool) (xs ys : List X) → list_any p xs ≡ true → take_while (λ x. not (p x)) (xs ++ ys) ≡ take_while (λ x. not (p x)) xs
while-stays p [] ys h = cc
while-stays p (x ∷ xs) ys h =
    take_while-cons (λ x. not (p x)) x (xs ++ ys)
    ∙ step p x (take_while (λ x. not (p x)) (xs ++ ys)) (take_while (λ x. not (p x)) xs) xs (p x) h (while-stays p xs ys)
    ∙ sym (take_while-cons (λ x. not (p x)) x xs)
  where
    step : {X : Type 0} (p : X → Bool) (x : X) (ms ns xs : List X) (b : Bool) → (b || list_any p xs) ≡ true → (list_any p xs ≡ true → ms ≡ ns) → cond (not b) (x ∷ ms) [] ≡ cond (not b) (x ∷ ns) []
    step p x ms ns xs true h k = refl
    step p x ms ns xs false h k = ap (λ zs. x ∷ zs) (k h)

-- and is the whole list where none passes
pub while-all : {X : Type 0} (p : X → Bool) (xs : List X) (y : X) → list_any p xs ≡ false → p y ≡ true → take_while (λ x. not (p x)) (xs ++ y ∷ []) ≡ xs
while-all p [] y h e = take_while-cons (λ x. not (p x)) y [] ∙ rw e refl
while-all p (x ∷ xs) y h e =
    take_while-cons (λ x. not (p x)) x (xs ++ y ∷ []) ∙ step p x (take_while (λ x. not (p x)) (xs ++ y ∷ [])) xs (p x) h (λ k. while-all p xs y k e)
  where
    step : {X : Type 0} (p : X → Bool) (x : X) (ms xs : List X) (b : Bool) → (b || list_any p xs) ≡ false → (list_any p xs ≡ false → ms ≡ xs) → cond (not b) (x ∷ ms) [] ≡ x ∷ xs
    step p x ms xs true h k = cc
    step p x ms xs false h k = ap (λ zs. x ∷ zs) (k h)
