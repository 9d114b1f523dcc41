-- One text appended after another.
use Rattle.std.proofs.Common.{◌≡◌, ℕ, zero, suc, ◌+◌, ◌<◌, List, [], ◌∷◌, ◌++◌, length, get_or, take, ap, sym, ◌∙◌, append_assoc, append-nil, add-one, arith}
use Rattle.std.specs.List.{flat_map}

pub two : {A : Type 0} (old a b mid new : List A) → mid ≡ old ++ a → new ≡ mid ++ b → new ≡ old ++ (a ++ b)
two old a b mid new p q = q ∙ ap (λ l. l ++ b) p ∙ append_assoc old a b

flat-suc : {X : Type 0} (f : X → List ℕ) (xs : List X) (i : ℕ) (d : X) → i < length xs → flat_map f (take (suc i) xs) ≡ flat_map f (take i xs) ++ f (get_or xs i d)
flat-suc f [] i d low = absurd (omega (arith, low))
flat-suc f (x ∷ xs) zero d low = append-nil (f x)
flat-suc f (x ∷ xs) (suc i) d low =
    ap (λ (l : List ℕ). f x ++ l) (flat-suc f xs i d (omega (arith, low))) ∙ sym (append_assoc (f x) (flat_map f (take i xs)) (f (get_or xs i d)))

-- the text of one more
pub flat-more : {X : Type 0} (f : X → List ℕ) (xs : List X) (i : ℕ) (d : X) → i < length xs → flat_map f (take (i + 1) xs) ≡ flat_map f (take i xs) ++ f (get_or xs i d)
flat-more f xs i d low = ap (λ (n : ℕ). flat_map f (take n xs)) (add-one i) ∙ flat-suc f xs i d low
