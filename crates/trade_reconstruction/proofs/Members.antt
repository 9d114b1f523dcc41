-- Members of lists, what is found in them, and things numbered by their places.
use Rattle.std.proofs.Common.{◌≡◌, refl, ap, ◌∙◌, ◌⊎◌, inl, inr, ℕ, zero, suc, ◌+◌, ◌<◌, ◌==◌, Bool, true, false, cond, List, [], ◌∷◌, ◌++◌, map, length, filter_map, find, slice_get, Option, Some, None, eq-eqb, ne_eqb, arith}
use Rattle.std.specs.List.{cons_option}
use Rattle.venue_rules.proofs.Members.{In, Places, Places-above}
use Rattle.trade_blotter.proofs.Lists.{none_is_some, same_some}

pub map_In : {X Y : Type 0} (f : X → Y) (xs : List X) (x : X) → In x xs → In (f x) (map f xs)
map_In f [] x i = absurd i
map_In f (z ∷ zs) x (inl e) = inl (ap f e)
map_In f (z ∷ zs) x (inr i) = inr (map_In f zs x i)

-- what `find` finds

pub found_first : {X : Type 0} (p : X → Bool) (x : X) (xs : List X) → p x ≡ true → find p (x ∷ xs) ≡ Some x
found_first p x xs h = ap (λ (b : Bool). cond b (Some x) (find p xs)) h

pub found_later : {X : Type 0} (p : X → Bool) (x : X) (xs : List X) → p x ≡ false → find p (x ∷ xs) ≡ find p xs
found_later p x xs h = ap (λ (b : Bool). cond b (Some x) (find p xs)) h

pub found_longer : {X : Type 0} (p : X → Bool) (xs ys : List X) (x : X) → find p xs ≡ Some x → find p (xs ++ ys) ≡ Some x
found_longer p [] ys x h = absurd (none_is_some x h)
found_longer p (z ∷ zs) ys x h = (elim (p z) as (λ b. cond b (Some z) (find p zs) ≡ Some x → cond b (Some z) (find p (zs ++ ys)) ≡ Some x) [ true ↦ λ k. k | false ↦ found_longer p zs ys x ]) h

pub found_past : {X : Type 0} (p : X → Bool) (xs ys : List X) → ((x : X) → In x xs → p x ≡ false) → find p (xs ++ ys) ≡ find p ys
found_past p [] ys h = refl
found_past p (z ∷ zs) ys h = found_later p z (zs ++ ys) (h z (inl refl)) ∙ found_past p zs ys (λ x i. h x (inr i))

pub found_map : {X Y : Type 0} (f : X → Y) (q : Y → Bool) (xs : List X) (x : X) → find (λ z. q (f z)) xs ≡ Some x → find q (map f xs) ≡ Some (f x)
found_map f q [] x h = absurd (none_is_some x h)
found_map f q (z ∷ zs) x h =
    (elim (q (f z)) as (λ b. cond b (Some z) (find (λ y. q (f y)) zs) ≡ Some x → cond b (Some (f z)) (find q (map f zs)) ≡ Some (f x)) [ true ↦ λ k. ap (λ y. Some (f y)) (same_some z x k) | false ↦ found_map f q zs x ]) h

-- what is picked passes the test
abbrev pub picked_passes : {Y : Type 0} → (Y → Bool) → Option Y → Bool
picked_passes p None = false
picked_passes p (Some y) = p y

found_there : {X Y : Type 0} (h : X → Option Y) (p : Y → Bool) (q : X → Bool) → ((x : X) → q x ≡ picked_passes p (h x)) → (z : X) (zs : List X) (y w : Y) (b : Bool) → h z ≡ Some w → p w ≡ b
    → (find p (filter_map h zs) ≡ Some y → (x : X) × (find q zs ≡ Some x) × (h x ≡ Some y)) → cond b (Some w) (find p (filter_map h zs)) ≡ Some y → (x : X) × (find q (z ∷ zs) ≡ Some x) × (h x ≡ Some y)
found_there h p q same z zs y w true is t rest k = (z, found_first q z zs (same z ∙ (ap (picked_passes p) is ∙ t)), is ∙ k)
found_there h p q same z zs y w false is t rest k = let r = rest k in (r.0, found_later q z zs (same z ∙ (ap (picked_passes p) is ∙ t)) ∙ r.1, r.2)

found_at : {X Y : Type 0} (h : X → Option Y) (p : Y → Bool) (q : X → Bool) → ((x : X) → q x ≡ picked_passes p (h x)) → (z : X) (zs : List X) (y : Y) (o : Option Y) → h z ≡ o
    → (find p (filter_map h zs) ≡ Some y → (x : X) × (find q zs ≡ Some x) × (h x ≡ Some y)) → find p (cons_option o (filter_map h zs)) ≡ Some y → (x : X) × (find q (z ∷ zs) ≡ Some x) × (h x ≡ Some y)
found_at h p q same z zs y None is rest k = let r = rest k in (r.0, found_later q z zs (same z ∙ ap (picked_passes p) is) ∙ r.1, r.2)
found_at h p q same z zs y (Some w) is rest k = found_there h p q same z zs y w (p w) is refl rest k

-- where a test of things is a test of what is picked of them, the first that passes is found by what is picked
pub found_picked : {X Y : Type 0} (h : X → Option Y) (p : Y → Bool) (q : X → Bool) → ((x : X) → q x ≡ picked_passes p (h x)) → (xs : List X) (y : Y) → find p (filter_map h xs) ≡ Some y
    → (x : X) × (find q xs ≡ Some x) × (h x ≡ Some y)
found_picked h p q same [] y e = absurd (none_is_some y e)
found_picked h p q same (z ∷ zs) y e = found_at h p q same z zs y (h z) refl (found_picked h p q same zs y) e

-- the element at a place

pub slice_unmap : {X Y : Type 0} (f : X → Y) (xs : List X) (k : ℕ) (y : Y) → slice_get (map f xs) k ≡ Some y → (x : X) × (slice_get xs k ≡ Some x) × (f x ≡ y)
slice_unmap f [] k y e = absurd (none_is_some y e)
slice_unmap f (x ∷ xs) zero y e = (x, refl, same_some (f x) y e)
slice_unmap f (x ∷ xs) (suc k) y e = slice_unmap f xs k y e

pub slice_map : {X Y : Type 0} (f : X → Y) (xs : List X) (k : ℕ) (x : X) → slice_get xs k ≡ Some x → slice_get (map f xs) k ≡ Some (f x)
slice_map f [] k x e = absurd (none_is_some x e)
slice_map f (z ∷ zs) zero x e = ap (λ y. Some (f y)) (same_some z x e)
slice_map f (z ∷ zs) (suc k) x e = slice_map f zs k x e

pub slice_In : {X : Type 0} (xs : List X) (k : ℕ) (x : X) → slice_get xs k ≡ Some x → In x xs
slice_In [] k x e = absurd (none_is_some x e)
slice_In (z ∷ zs) zero x e = inl (same_some z x e)
slice_In (z ∷ zs) (suc k) x e = inr (slice_In zs k x e)

pub slice_append : {X : Type 0} (xs ys : List X) (k : ℕ) (x : X) → slice_get (xs ++ ys) k ≡ Some x → (slice_get xs k ≡ Some x) ⊎ ((j : ℕ) × (k ≡ length xs + j) × (slice_get ys j ≡ Some x))
slice_append [] ys k x e = inr (k, from_zero k, e)
  where
    from_zero : (a : ℕ) → a ≡ 0 + a
    from_zero a = omega arith
slice_append (z ∷ zs) ys zero x e = inl e
slice_append (z ∷ zs) ys (suc k) x e = one_more (slice_append zs ys k x e)
  where
    one_more : (slice_get zs k ≡ Some x) ⊎ ((j : ℕ) × (k ≡ length zs + j) × (slice_get ys j ≡ Some x)) → (slice_get zs k ≡ Some x) ⊎ ((j : ℕ) × (suc k ≡ suc (length zs) + j) × (slice_get ys j ≡ Some x))
    one_more (inl h) = inl h
    one_more (inr h) = let e = h.1 in inr (h.0, omega (arith, e), h.2)

pub slice_within : {X : Type 0} (xs : List X) (k : ℕ) (x : X) → slice_get xs k ≡ Some x → k < length xs
slice_within [] k x e = absurd (none_is_some x e)
slice_within (z ∷ zs) zero x e = omega arith
slice_within (z ∷ zs) (suc k) x e = let h = slice_within zs k x e in omega (arith, h)

-- Things numbered by their places, from n + 1 on.

pub Places-found : {X : Type 0} (num : X → ℕ) (n : ℕ) (xs : List X) → Places num n xs → (x : X) → In x xs → find (λ y. num y == num x) xs ≡ Some x
Places-found num n [] p x i = absurd i
Places-found num n (y ∷ ys) p x (inl same) = found_first (λ z. num z == num x) y ys (eq-eqb (num y) (num x) (ap num same)) ∙ ap Some same
Places-found num n (y ∷ ys) p x (inr i) =
    found_later (λ z. num z == num x) y ys (ne_eqb (num y) (num x) (λ e. apart (num y) (num x) p.0 (Places-above num (n + 1) ys p.1 x i) e)) ∙ Places-found num (n + 1) ys p.1 x i
  where
    apart : (a b : ℕ) → a ≡ n + 1 → n + 1 < b → a ≡ b → ⊥
    apart a b k l e = omega (arith, k, l, e)

pub Places-unmap : {X Y : Type 0} (f : X → Y) (num : Y → ℕ) (n : ℕ) (xs : List X) → Places num n (map f xs) → Places (λ x. num (f x)) n xs
Places-unmap f num n [] p = tt
Places-unmap f num n (x ∷ xs) p = (p.0, Places-unmap f num (n + 1) xs p.1)

pub Places-from : {X : Type 0} (num : X → ℕ) (n : ℕ) (xs : List X) → ((k : ℕ) (x : X) → slice_get xs k ≡ Some x → num x ≡ n + k + 1) → Places num n xs
Places-from num n [] h = tt
Places-from num n (x ∷ xs) h = (h 0 x refl ∙ here n, Places-from num (n + 1) xs (λ k y e. h (suc k) y e ∙ next n k))
  where
    here : (a : ℕ) → a + 0 + 1 ≡ a + 1
    here a = omega arith

    next : (a k : ℕ) → a + suc k + 1 ≡ a + 1 + k + 1
    next a k = omega arith
