-- Lists, for crates that read a day's answers; venue_rules' Members has more.
use Rattle.std.proofs.Common.{◌≡◌, refl, inl, inr, Bool, true, List, [], ◌∷◌, map, filter, Option, Some, None}
use Rattle.venue_rules.proofs.Members.{In, In-filter}

pub none_is_some : {A : Type 0} (a : A) → None ≡ Some a → ⊥
none_is_some a e = cc

pub same_some : {A : Type 0} (a b : A) → Some a ≡ Some b → a ≡ b
same_some a b e = cc

pub In-map : {X Y : Type 0} (f : X → Y) (xs : List X) (y : Y) → In y (map f xs) → (x : X) × In x xs × (f x ≡ y)
In-map f [] y i = absurd i
In-map f (x ∷ xs) y (inl e) = (x, inl refl, e)
In-map f (x ∷ xs) y (inr i) = let k = In-map f xs y i in (k.0, inr k.1, k.2)

pub In-filtered : {X : Type 0} (p : X → Bool) (xs : List X) (x : X) → In x (filter p xs) → In x xs
In-filtered p xs x i = (In-filter p xs x i).0
