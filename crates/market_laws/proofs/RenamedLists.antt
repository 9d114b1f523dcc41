use Rattle.std.proofs.Common.{◌≡◌, refl, sym, ap, ap₂, ◌∙◌, ℕ, ◌+◌, suc, Bool, true, false, cond, ◌||◌, List, [], ◌∷◌, ◌++◌, map, reverse, length, filter, filter_map, find, Option, Some, None, is_some, is_none, option_map}
use Rattle.std.specs.List.{cons_option, list_any, sum_by}
use Rattle.std.proofs.lemmas.Bool.{true≢false}
use Rattle.std.proofs.lemmas.List.{map-append, reverse-append}
use Rattle.std.proofs.lemmas.List.Sums.{sum_by-cons}

-- Lists whose elements are replaced one by one.

cons_mapped : {Y : Type 0} (g : Y → Y) (o : Option Y) (xs ys : List Y) → xs ≡ map g ys → cons_option (option_map g o) xs ≡ map g (cons_option o ys)
cons_mapped g None xs ys e = e
cons_mapped g (Some y) xs ys e = ap (λ zs. g y ∷ zs) e

pub picked_mapped : {X Y : Type 0} (h : X → Option Y) (f : X → X) (g : Y → Y) → ((x : X) → h (f x) ≡ option_map g (h x)) → (xs : List X) → filter_map h (map f xs) ≡ map g (filter_map h xs)
picked_mapped h f g e [] = refl
picked_mapped h f g e (x ∷ xs) = ap (λ o. cons_option o (filter_map h (map f xs))) (e x) ∙ cons_mapped g (h x) (filter_map h (map f xs)) (filter_map h xs) (picked_mapped h f g e xs)

pub any_mapped : {X Y : Type 0} (p : Y → Bool) (f : X → Y) (q : X → Bool) → ((x : X) → p (f x) ≡ q x) → (xs : List X) → list_any p (map f xs) ≡ list_any q xs
any_mapped p f q e [] = refl
any_mapped p f q e (x ∷ xs) = ap₂ (λ a b. a || b) (e x) (any_mapped p f q e xs)

pub filter_mapped : {X : Type 0} (p : X → Bool) (f : X → X) (q : X → Bool) → ((x : X) → p (f x) ≡ q x) → (xs : List X) → filter p (map f xs) ≡ map f (filter q xs)
filter_mapped p f q e [] = refl
filter_mapped p f q e (x ∷ xs) = by (p (f x)) (q x) (e x) (filter_mapped p f q e xs)
  where
    by : (a b : Bool) → a ≡ b → filter p (map f xs) ≡ map f (filter q xs) → cond a (f x ∷ filter p (map f xs)) (filter p (map f xs)) ≡ map f (cond b (x ∷ filter q xs) (filter q xs))
    by true true h k = ap (λ ys. f x ∷ ys) k
    by false false h k = k
    by true false h k = absurd (true≢false h)
    by false true h k = absurd (true≢false (sym h))

pub find_mapped : {X : Type 0} (p : X → Bool) (f : X → X) (q : X → Bool) → ((x : X) → p (f x) ≡ q x) → (xs : List X) → find p (map f xs) ≡ option_map f (find q xs)
find_mapped p f q e [] = refl
find_mapped p f q e (x ∷ xs) = by (p (f x)) (q x) (e x) (find_mapped p f q e xs)
  where
    by : (a b : Bool) → a ≡ b → find p (map f xs) ≡ option_map f (find q xs) → cond a (Some (f x)) (find p (map f xs)) ≡ option_map f (cond b (Some x) (find q xs))
    by true true h k = refl
    by false false h k = k
    by true false h k = absurd (true≢false h)
    by false true h k = absurd (true≢false (sym h))

pub sum_mapped : {X : Type 0} (g : X → ℕ) (f : X → X) → ((x : X) → g (f x) ≡ g x) → (xs : List X) → sum_by g (map f xs) ≡ sum_by g xs
sum_mapped g f e [] = refl
sum_mapped g f e (x ∷ xs) = sum_by-cons g (f x) (map f xs) ∙ (ap₂ (λ a b. a + b) (e x) (sum_mapped g f e xs) ∙ sym (sum_by-cons g x xs))

pub length_mapped : {X Y : Type 0} (f : X → Y) (xs : List X) → length (map f xs) ≡ length xs
length_mapped f [] = refl
length_mapped f (x ∷ xs) = ap suc (length_mapped f xs)

pub reverse_mapped : {X : Type 0} (f : X → X) (xs : List X) → reverse (map f xs) ≡ map f (reverse xs)
reverse_mapped f [] = refl
reverse_mapped f (x ∷ xs) =
    reverse-append (f x ∷ []) (map f xs)
    ∙ (ap (λ ys. ys ++ (f x ∷ [])) (reverse_mapped f xs)
    ∙ (sym (map-append f (reverse xs) (x ∷ [])) ∙ ap (map f) (sym (reverse-append (x ∷ []) xs))))

pub same_mapped : {X Y : Type 0} (h : X → Y) (f : X → X) → ((x : X) → h (f x) ≡ h x) → (xs : List X) → map h (map f xs) ≡ map h xs
same_mapped h f e [] = refl
same_mapped h f e (x ∷ xs) = ap₂ (λ y ys. y ∷ ys) (e x) (same_mapped h f e xs)

-- two functions, one on the elements and one on their images
pub each_mapped : {X Y : Type 0} (h : X → Y) (k : X → Y) (f : X → X) (g : Y → Y) → ((x : X) → h (f x) ≡ g (k x)) → (xs : List X) → map h (map f xs) ≡ map g (map k xs)
each_mapped h k f g e [] = refl
each_mapped h k f g e (x ∷ xs) = ap₂ (λ y ys. y ∷ ys) (e x) (each_mapped h k f g e xs)

pub some_mapped : {X : Type 0} (f : X → X) (o : Option X) → is_some (option_map f o) ≡ is_some o
some_mapped f None = refl
some_mapped f (Some x) = refl

pub none_mapped : {X : Type 0} (f : X → X) (o : Option X) → is_none (option_map f o) ≡ is_none o
none_mapped f None = refl
none_mapped f (Some x) = refl
