-- Elements of a list, one of which changes.
use Rattle.std.proofs.Common.{◌≡◌, ◌≢◌, ◌⊎◌, inl, inr, ℕ, zero, suc, ◌+◌, ◌<◌, List, [], ◌∷◌, length, set, get_or, refl, sym, ap, ◌∙◌, arith, ◌≤◌, subst}
use Rattle.std.specs.Prelude.{slice_get, Some}
use borrow.Author.Count.{below_more}

pub at_set : {A : Type 0} (xs : List A) (j k : ℕ) (a x : A) → slice_get (set xs j a) k ≡ Some x → ((k ≡ j) × (x ≡ a)) ⊎ ((k ≢ j) × (slice_get xs k ≡ Some x))
at_set [] j k a x e = absurd (cc)
at_set (y ∷ ys) zero zero a x e = let same : x ≡ a = cc in inl (refl, same)
at_set (y ∷ ys) zero (suc k) a x e = inr ((λ e. omega arith), e)
at_set (y ∷ ys) (suc j) zero a x e = inr ((λ e. omega arith), e)
at_set (y ∷ ys) (suc j) (suc k) a x e = go (at_set ys j k a x e)
  where
    go : (((k ≡ j) × (x ≡ a)) ⊎ ((k ≢ j) × (slice_get ys k ≡ Some x))) → ((suc k ≡ suc j) × (x ≡ a)) ⊎ ((suc k ≢ suc j) × (slice_get ys k ≡ Some x))
    go (inl t) = inl (ap suc t.0, t.1)
    go (inr t) = inr ((λ e. t.0 (omega arith)), t.1)

pub at_below : {A : Type 0} (xs : List A) (k : ℕ) (d : A) → k < length xs → slice_get xs k ≡ Some (get_or xs k d)
at_below [] k d low = absurd (omega arith)
at_below (y ∷ ys) zero d low = refl
at_below (y ∷ ys) (suc k) d low = at_below ys k d (omega arith)

pub below_at : {A : Type 0} (xs : List A) (k : ℕ) (x : A) → slice_get xs k ≡ Some x → k < length xs
below_at [] k x e = absurd (cc)
below_at (y ∷ ys) zero x e = omega arith
below_at (y ∷ ys) (suc k) x e = let r = below_at ys k x e in omega arith

pub at_read : {A : Type 0} (xs : List A) (k : ℕ) (v : A) → k < length xs → v ≡ get_or xs k v → slice_get xs k ≡ Some v
at_read xs k v low e = at_below xs k v low ∙ ap Some (sym e)

pub other_set : {A : Type 0} (xs : List A) (i k : ℕ) (a : A) → k ≢ i → slice_get (set xs i a) k ≡ slice_get xs k
other_set [] i k a ne = refl
other_set (y ∷ ys) zero zero a ne = absurd (ne refl)
other_set (y ∷ ys) zero (suc k) a ne = refl
other_set (y ∷ ys) (suc i) zero a ne = refl
other_set (y ∷ ys) (suc i) (suc k) a ne = other_set ys i k a (λ e. ne (ap suc e))

-- a fact of an element that was read, as a fact of its place
pub holds_at : {A : Type 0} (P : A → Type 0) (xs : List A) (i : ℕ) (a : A) → i < length xs → a ≡ get_or xs i a → P a → (x : A) → slice_get xs i ≡ Some x → P x
holds_at P xs i a low read here x x_at = let a_at = at_read xs i a low read in let same : a ≡ x = cc in subst P same here

-- a fact of the elements before one, and of that one
pub more_hold : {A : Type 0} (P : ℕ → A → Type 0) (xs : List A) (i : ℕ) (a : A) → i < length xs → a ≡ get_or xs i a → P i a → ((k : ℕ) (x : A) → k < i → slice_get xs k ≡ Some x → P k x) → (k : ℕ) (x : A) → k < i + 1 → slice_get xs k ≡ Some x → P k x
more_hold {A} P xs i a low read here held k x k_low x_at =
    below_more (λ (n : ℕ). (y : A) → slice_get xs n ≡ Some y → P n y) i (λ n n_low y y_at. held n y n_low y_at) (holds_at (P i) xs i a low read here) k k_low x x_at

-- the elements not yet changed, after one more change
pub still_old : {A : Type 0} (old xs : List A) (i : ℕ) (a : A) → ((k : ℕ) → i ≤ k → slice_get xs k ≡ slice_get old k) → (k : ℕ) → i + 1 ≤ k → slice_get (set xs i a) k ≡ slice_get old k
still_old old xs i a same k high = other_set xs i k a (λ e. omega arith) ∙ same k (omega arith)

-- the elements changed, after one more change
pub more_done : {A : Type 0} (P : ℕ → A → Type 0) (xs : List A) (i : ℕ) (a : A) → P i a → ((k : ℕ) (x : A) → k < i → slice_get xs k ≡ Some x → P k x) → (k : ℕ) (x : A) → k < i + 1 → slice_get (set xs i a) k ≡ Some x → P k x
more_done P xs i a here done k x low e = go (at_set xs i k a x e)
  where
    go : (((k ≡ i) × (x ≡ a)) ⊎ ((k ≢ i) × (slice_get xs k ≡ Some x))) → P k x
    go (inl t) = subst (λ (n : ℕ). P n x) (sym t.0) (subst (λ y. P i y) (sym t.1) here)
    go (inr t) = done k x (let ne = t.0 in omega arith) t.1
