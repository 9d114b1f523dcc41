-- Members of lists, tests of them, and what is picked of them.
use Rattle.std.proofs.Common.{◌≡◌, refl, sym, ap, subst, ◌∙◌, ◌⊎◌, inl, inr, Bool, true, false, ◌||◌, List, [], ◌∷◌, ◌++◌}
use Rattle.std.specs.List.{flat_map, list_any}
use Rattle.std.proofs.lemmas.Bool.{true≢false}
use Rattle.venue_rules.proofs.Members.{In, In-append_cases, In-append_left, In-append_right}

pub or_left : (a b : Bool) → a ≡ true → (a || b) ≡ true
or_left a b e = ap (λ x. x || b) e

pub or_right : (a b : Bool) → b ≡ true → (a || b) ≡ true
or_right true b e = refl
or_right false b e = e

pub or_cases : (a b : Bool) → (a || b) ≡ true → (a ≡ true) ⊎ (b ≡ true)
or_cases true b e = inl refl
or_cases false b e = inr e

pub any_left : {X : Type 0} (p : X → Bool) (xs ys : List X) → list_any p xs ≡ true → list_any p (xs ++ ys) ≡ true
any_left p [] ys e = absurd (true≢false (sym e))
any_left p (x ∷ xs) ys e = by (any_left p xs ys) (or_cases (p x) (list_any p xs) e)
  where
    by : (list_any p xs ≡ true → list_any p (xs ++ ys) ≡ true) → (p x ≡ true) ⊎ (list_any p xs ≡ true) → (p x || list_any p (xs ++ ys)) ≡ true
    by rec (inl a) = or_left (p x) (list_any p (xs ++ ys)) a
    by rec (inr b) = or_right (p x) (list_any p (xs ++ ys)) (rec b)

pub any_right : {X : Type 0} (p : X → Bool) (xs ys : List X) → list_any p ys ≡ true → list_any p (xs ++ ys) ≡ true
any_right p [] ys e = e
any_right p (x ∷ xs) ys e = or_right (p x) (list_any p (xs ++ ys)) (any_right p xs ys e)

pub any_cases : {X : Type 0} (p : X → Bool) (xs ys : List X) → list_any p (xs ++ ys) ≡ true → (list_any p xs ≡ true) ⊎ (list_any p ys ≡ true)
any_cases p [] ys e = inr e
any_cases p (x ∷ xs) ys e = by (any_cases p xs ys) (or_cases (p x) (list_any p (xs ++ ys)) e)
  where
    later : (list_any p xs ≡ true) ⊎ (list_any p ys ≡ true) → ((p x || list_any p xs) ≡ true) ⊎ (list_any p ys ≡ true)
    later (inl a) = inl (or_right (p x) (list_any p xs) a)
    later (inr b) = inr b

    by : (list_any p (xs ++ ys) ≡ true → (list_any p xs ≡ true) ⊎ (list_any p ys ≡ true)) → (p x ≡ true) ⊎ (list_any p (xs ++ ys) ≡ true) → ((p x || list_any p xs) ≡ true) ⊎ (list_any p ys ≡ true)
    by rec (inl a) = inl (or_left (p x) (list_any p xs) a)
    by rec (inr b) = later (rec b)

pub any_in : {X : Type 0} (p : X → Bool) (xs : List X) → list_any p xs ≡ true → (x : X) × In x xs × (p x ≡ true)
any_in p [] e = absurd (true≢false (sym e))
any_in {X} p (x ∷ xs) e = by (any_in p xs) (or_cases (p x) (list_any p xs) e)
  where
    by : (list_any p xs ≡ true → (y : X) × In y xs × (p y ≡ true)) → (p x ≡ true) ⊎ (list_any p xs ≡ true) → (y : X) × In y (x ∷ xs) × (p y ≡ true)
    by rec (inl a) = (x, inl refl, a)
    by rec (inr b) = let k = rec b in (k.0, inr k.1, k.2)

pub in_any : {X : Type 0} (p : X → Bool) (xs : List X) (x : X) → In x xs → p x ≡ true → list_any p xs ≡ true
in_any p [] x i e = absurd i
in_any p (y ∷ ys) x (inl same) e = or_left (p y) (list_any p ys) (ap p same ∙ e)
in_any p (y ∷ ys) x (inr i) e = or_right (p y) (list_any p ys) (in_any p ys x i e)

pub in_flat : {X Y : Type 0} (f : X → List Y) (xs : List X) (x : X) (y : Y) → In x xs → In y (f x) → In y (flat_map f xs)
in_flat f [] x y i k = absurd i
in_flat f (z ∷ zs) x y (inl same) k = In-append_left (f z) (flat_map f zs) y (subst (λ w. In y (f w)) (sym same) k)
in_flat f (z ∷ zs) x y (inr i) k = In-append_right (f z) (flat_map f zs) y (in_flat f zs x y i k)

pub from_flat : {X Y : Type 0} (f : X → List Y) (xs : List X) (y : Y) → In y (flat_map f xs) → (x : X) × In x xs × In y (f x)
from_flat f [] y i = absurd i
from_flat {X} f (z ∷ zs) y i = by (from_flat f zs y) (In-append_cases (f z) (flat_map f zs) y i)
  where
    by : (In y (flat_map f zs) → (x : X) × In x zs × In y (f x)) → In y (f z) ⊎ In y (flat_map f zs) → (x : X) × In x (z ∷ zs) × In y (f x)
    by rec (inl k) = (z, inl refl, k)
    by rec (inr k) = let w = rec k in (w.0, inr w.1, w.2)
