use Rattle.std.proofs.Common.{◌≡◌, refl, sym, ap, ◌∙◌, ℕ, zero, suc, ◌+◌, ◌-◌, ◌≤◌, ◌<◌, Bool, true, false, not, List, [], ◌∷◌, ◌++◌, length, get_or, set, reverse, append-nil, arith}
use Rattle.std.specs.List.{insert, remove}
use Rattle.std.specs.List.Sorted.{IsPartitionedBy, IsPartitionPoint}
use Rattle.std.proofs.lemmas.Grind.{reverse_onto}
use Rattle.std.proofs.lemmas.List.{length-reverse, get_or-reverse, set-append_left, set-append_right}
use Rattle.std.proofs.lemmas.List.Edits.{insert_end, insert-append_left, remove-append_left, remove-append_right}

-- A list, reversed.

reverse-cons : {X : Type 0} (x : X) (xs : List X) → reverse (x ∷ xs) ≡ reverse xs ++ x ∷ []
reverse-cons x xs = reverse_onto xs x []

pub read-turned : {X : Type 0} (xs : List X) (i k : ℕ) (d : X) → i + k + 1 ≡ length xs → get_or (reverse xs) k d ≡ get_or xs i d
read-turned xs i k d h = get_or-reverse xs k d (omega (arith, h)) ∙ ap (λ j. get_or xs j d) (same (length xs) h)
  where
    same : (n : ℕ) → i + k + 1 ≡ n → n - 1 - k ≡ i
    same n e = omega (arith, e)

pub insert-turned : {X : Type 0} (xs : List X) (i k : ℕ) (x : X) → i + k ≡ length xs → reverse (insert xs i x) ≡ insert (reverse xs) k x
insert-turned [] zero zero x h = refl
insert-turned [] zero (suc k) x h = absurd (omega (arith, h))
insert-turned [] (suc i) k x h = absurd (omega (arith, h))
insert-turned (y ∷ xs) zero k x h =
    let end : length (reverse (y ∷ xs)) ≡ k = length-reverse (y ∷ xs) ∙ omega (arith, h) in
    reverse-cons x (y ∷ xs) ∙ sym (insert_end (reverse (y ∷ xs)) x) ∙ ap (λ j. insert (reverse (y ∷ xs)) j x) end
insert-turned (y ∷ xs) (suc i) k x h =
    reverse-cons y (insert xs i x) ∙ ap (λ t. t ++ y ∷ []) (insert-turned xs i k x (omega (arith, h)))
    ∙ sym (insert-append_left (reverse xs) (y ∷ []) k x (omega (arith, h, length-reverse xs))) ∙ ap (λ t. insert t k x) (sym (reverse-cons y xs))

pub remove-turned : {X : Type 0} (xs : List X) (i k : ℕ) → i + k + 1 ≡ length xs → reverse (remove xs i) ≡ remove (reverse xs) k
remove-turned [] i k h = absurd (omega (arith, h))
remove-turned (y ∷ xs) zero k h =
    let end : k ≡ length (reverse xs) = omega (arith, h, length-reverse xs) in
    sym (ap (λ t. remove t k) (reverse-cons y xs) ∙ remove-append_right (reverse xs) (y ∷ []) k k (sym end) (omega arith) ∙ ap (λ j. reverse xs ++ remove (y ∷ []) j) (none k) ∙ append-nil (reverse xs))
  where
    none : (n : ℕ) → n - n ≡ 0
    none n = omega arith
remove-turned (y ∷ xs) (suc i) k h =
    reverse-cons y (remove xs i) ∙ ap (λ t. t ++ y ∷ []) (remove-turned xs i k (omega (arith, h)))
    ∙ sym (remove-append_left (reverse xs) (y ∷ []) k (omega (arith, h, length-reverse xs))) ∙ ap (λ t. remove t k) (sym (reverse-cons y xs))

pub set-turned : {X : Type 0} (xs : List X) (i k : ℕ) (x : X) → i + k + 1 ≡ length xs → reverse (set xs i x) ≡ set (reverse xs) k x
set-turned [] i k x h = absurd (omega (arith, h))
set-turned (y ∷ xs) zero k x h =
    let end : k ≡ length (reverse xs) = omega (arith, h, length-reverse xs) in
    reverse-cons x xs ∙ sym (ap (λ t. set t k x) (reverse-cons y xs) ∙ set-append_right (reverse xs) (y ∷ []) k k x (sym end) (omega arith) ∙ ap (λ j. reverse xs ++ set (y ∷ []) j x) (none k))
  where
    none : (n : ℕ) → n - n ≡ 0
    none n = omega arith
set-turned (y ∷ xs) (suc i) k x h =
    reverse-cons y (set xs i x) ∙ ap (λ t. t ++ y ∷ []) (set-turned xs i k x (omega (arith, h)))
    ∙ sym (set-append_left (reverse xs) (y ∷ []) k x (omega (arith, h, length-reverse xs))) ∙ ap (λ t. set t k x) (sym (reverse-cons y xs))

-- a search of a list, as a search of the reversed one

no-both : (b : Bool) → b ≡ true → not b ≡ true → ⊥
no-both true h k = cc
no-both false h k = cc

pub parted-turned : {X : Type 0} (p q : X → Bool) (xs : List X) → ((x : X) → q x ≡ not (p x)) → IsPartitionedBy p (reverse xs) → IsPartitionedBy q xs
parted-turned p q xs other parted i j d h l up = by (p (get_or xs i d)) refl
  where
    by : (b : Bool) → p (get_or xs i d) ≡ b → q (get_or xs i d) ≡ true
    by false e = other (get_or xs i d) ∙ ap not e
    by true e =
        let n = length xs in
        let ri : get_or (reverse xs) (n - 1 - i) d ≡ get_or xs i d = read-turned xs i (n - 1 - i) d (omega (arith, h, l)) in
        let rj : get_or (reverse xs) (n - 1 - j) d ≡ get_or xs j d = read-turned xs j (n - 1 - j) d (omega (arith, l)) in
        let on : p (get_or xs j d) ≡ true = ap p (sym rj) ∙ parted (n - 1 - j) (n - 1 - i) d (omega (arith, h, l)) (omega (arith, h, l, length-reverse xs)) (ap p ri ∙ e) in
        absurd (no-both (p (get_or xs j d)) on (sym (other (get_or xs j d)) ∙ up))

pub point-turned : {X : Type 0} (p q : X → Bool) (xs : List X) (i k : ℕ) → ((x : X) → q x ≡ not (p x)) → i + k ≡ length xs → IsPartitionPoint (λ y. q y ≡ true) (λ y. q y ≡ false) xs i → IsPartitionPoint (λ y. p y ≡ true) (λ y. p y ≡ false) (reverse xs) k
point-turned p q xs i k other at point = (
  (λ j d low high. let n = length xs in ap p (read-turned xs (n - 1 - j) j d (omega (arith, at, high))) ∙ on (p (get_or xs (n - 1 - j) d)) (sym (other (get_or xs (n - 1 - j) d)) ∙ point.1 (n - 1 - j) d (omega (arith, at, high)) (omega (arith, at, high)))),
  (λ j d low high. let n = length xs in ap p (read-turned xs (n - 1 - j) j d (omega (arith, high, length-reverse xs))) ∙ off (p (get_or xs (n - 1 - j) d)) (sym (other (get_or xs (n - 1 - j) d)) ∙ point.0 (n - 1 - j) d (omega arith) (omega (arith, at, low, high, length-reverse xs)))),
)
  where
    on : (b : Bool) → not b ≡ false → b ≡ true
    on true e = refl
    on false e = cc

    off : (b : Bool) → not b ≡ true → b ≡ false
    off true e = cc
    off false e = refl

-- reads of a list, from its end

pub read-back : {X : Type 0} (xs ys : List X) (at : ℕ) (x : X) → reverse xs ≡ ys → 0 < at → at ≤ length xs → x ≡ get_or xs (at - 1) x → x ≡ get_or ys (length xs - at) x
read-back xs ys at x e low high is = is ∙ sym (read-turned xs (at - 1) (length xs - at) x (omega (arith, low, high))) ∙ ap (λ zs. get_or zs (length xs - at) x) e

pub inside-back : {X : Type 0} (xs ys : List X) (at : ℕ) → reverse xs ≡ ys → 0 < at → at ≤ length xs → length xs - at < length ys
inside-back xs ys at e low high = omega (arith, low, high, length-reverse xs, ap length e)

pub next-back : (n at : ℕ) → 0 < at → at ≤ n → n - (at - 1) ≡ n - at + 1
next-back n at low high = omega (arith, low, high)

pub none-read : (n : ℕ) → n - n ≡ 0
none-read n = omega arith
