use Rattle.std.proofs.Common.{◌≡◌, refl, sym, ap, ◌∙◌, ℕ, suc, zero, ◌+◌, ◌-◌, ◌<◌, Bool, true, false, nat_lt, List, [], ◌∷◌, map, length, get_or, ◌⊎◌, inl, inr, arith, if◌then◌else◌}
use Rattle.std.specs.List.{remove}
use Rattle.std.specs.declared.cmp.Ordering.{Ordering}
use Rattle.std.specs.declared.cmp.Ordering.TheVariants.{Less, Equal, Greater}
use Rattle.std.specs.Ordering.{nat_cmp, ordering_then}
use Rattle.std.proofs.lemmas.Bool.{cases_lt}
use Rattle.std.proofs.lemmas.Bool.Decides.{nat_tests}
use Rattle.std.proofs.lemmas.List.{length-map}
use Rattle.std.proofs.lemmas.List.Edits.{length-remove, get_or-remove_below, get_or-remove_above}
use Rattle.client_ids.specs.declared.client_id.ClientId.{ClientId}
use Rattle.client_ids.specs.ClientIds.{name_cmp, no_name, name_at, place_cmp, IsIndex, closed}
use Rattle.std.proofs.lemmas.Cmp.{tied_itself}
use Rattle.client_ids.proofs.Ordered.{name_total, then-less, nat-less, less-nat}

-- removal of a name

get_or-mapped : (f : ℕ → ℕ) (xs : List ℕ) (i : ℕ) → i < length xs → get_or (map f xs) i 0 ≡ f (get_or xs i 0)
get_or-mapped f [] i h = absurd (omega (arith, h))
get_or-mapped f (x ∷ xs) zero h = refl
get_or-mapped f (x ∷ xs) (suc i) h = get_or-mapped f xs i (omega (arith, h))

closed-below : (g k : ℕ) → k < g → closed g k ≡ k
closed-below g k h = by (nat_lt g k) refl
  where
    by : (b : Bool) → nat_lt g k ≡ b → (if b then k - 1 else k) ≡ k
    by true e = absurd (grind (arith, nat_tests))
    by false e = refl

closed-above : (g k : ℕ) → g < k → closed g k ≡ k - 1
closed-above g k h = by (nat_lt g k) refl
  where
    by : (b : Bool) → nat_lt g k ≡ b → (if b then k - 1 else k) ≡ k - 1
    by true e = refl
    by false e = absurd (grind (arith, nat_tests))

-- another place than the removed one
data Side (g k : ℕ) : Type 0 where
  Low : k < g → closed g k ≡ k → Side g k
  High : g < k → closed g k ≡ k - 1 → Side g k

side : (g k : ℕ) → (k ≡ g → ⊥) → Side g k
side g k other = elim (cases_lt k g) [
  | inl less ↦ Low less (closed-below g k less)
  | inr more ↦ elim (cases_lt g k) [
    | inl greater ↦ High greater (closed-above g k greater)
    | inr no_greater ↦ absurd (other (omega (arith, more, no_greater)))
  ]
]

-- the names that stay
name-kept : (names : List ClientId) (g k : ℕ) → g < length names → (k ≡ g → ⊥) → name_at (remove names g) (closed g k) ≡ name_at names k
name-kept names g k h other = elim (side g k other) [
  | Low less e ↦ ap (name_at (remove names g)) e ∙ get_or-remove_below names g no_name k less h
  | High more e ↦ let next : k - 1 + 1 ≡ k = omega (arith, more) in ap (name_at (remove names g)) e ∙ get_or-remove_above names g no_name (k - 1) (omega (arith, more)) h ∙ ap (name_at names) next
]

closed-less : (g a b : ℕ) → (a ≡ g → ⊥) → (b ≡ g → ⊥) → a < b → closed g a < closed g b
closed-less g a b p q h = by (side g a p) (side g b q)
  where
    by : Side g a → Side g b → closed g a < closed g b
    by (Low l e) (Low m f) = omega (arith, e, f, h)
    by (Low l e) (High m f) = omega (arith, e, f, l, m)
    by (High l e) (Low m f) = omega (arith, l, m, h)
    by (High l e) (High m f) = omega (arith, e, f, l, m, h)

then-again : (o p : Ordering) → o ≡ Equal → p ≡ Less → ordering_then o p ≡ Less
then-again Less p e h = refl
then-again Equal p e h = h
then-again Greater p e h = cc

then-first : (o p : Ordering) → o ≡ Less → ordering_then o p ≡ Less
then-first Less p e = refl
then-first Equal p e = cc
then-first Greater p e = cc

place_cmp-kept : (names : List ClientId) (g a b : ℕ) → g < length names → (a ≡ g → ⊥) → (b ≡ g → ⊥) → place_cmp names a b ≡ Less → place_cmp (remove names g) (closed g a) (closed g b) ≡ Less
place_cmp-kept names g a b h p q less =
    ap (λ x. ordering_then (name_cmp x (name_at (remove names g) (closed g b))) (nat_cmp (closed g a) (closed g b))) (name-kept names g a h p)
    ∙ ap (λ y. ordering_then (name_cmp (name_at names a) y) (nat_cmp (closed g a) (closed g b))) (name-kept names g b h q)
    ∙ elim (then-less (name_cmp (name_at names a) (name_at names b)) (nat_cmp a b) less).which [
      | inl l ↦ then-first (name_cmp (name_at names a) (name_at names b)) (nat_cmp (closed g a) (closed g b)) l
      | inr e ↦ then-again (name_cmp (name_at names a) (name_at names b)) (nat_cmp (closed g a) (closed g b)) e.0 (less-nat (closed g a) (closed g b) (closed-less g a b p q (nat-less a b e.1)))
    ]

itself : (names : List ClientId) (a b : ℕ) → a ≡ b → name_cmp (name_at names a) (name_at names b) ≡ Less → ⊥
itself names a b e less = let equal : Less ≡ Equal = sym less ∙ ap (λ k. name_cmp (name_at names a) (name_at names k)) (sym e) ∙ tied_itself name_total (name_at names a) in cc

-- places of the index differ
apart : (names : List ClientId) (index : List ℕ) (i j : ℕ) → IsIndex names index → i < j → j < length index → get_or index i 0 ≡ get_or index j 0 → ⊥
apart names index i j is h l same = elim (then-less (name_cmp (name_at names (get_or index i 0)) (name_at names (get_or index j 0))) (nat_cmp (get_or index i 0) (get_or index j 0)) (is.rising i j h l)).which [
  | inl less ↦ itself names (get_or index i 0) (get_or index j 0) same less
  | inr e ↦ omega (arith, nat-less (get_or index i 0) (get_or index j 0) e.1, same)
]

other-place : (names : List ClientId) (index : List ℕ) (i j : ℕ) → IsIndex names index → (i < j) ⊎ (j < i) → i < length index → j < length index → get_or index i 0 ≡ get_or index j 0 → ⊥
other-place names index i j is which h l same = elim which [ inl less ↦ apart names index i j is less l same | inr more ↦ apart names index j i is more h (sym same) ]

-- the origin of a place of the shorter index
record From (index : List ℕ) (at i : ℕ) : Type 0 where
  place : ℕ
  below : place < length index
  read : get_or (remove index at) i 0 ≡ get_or index place 0
  which : ((place < at) × (place ≡ i)) ⊎ ((at < place) × (place ≡ i + 1))

from-there : (index : List ℕ) (at i : ℕ) → at < length index → i < length (remove index at) → From index at i
from-there index at i within h =
    let shorter = length-remove index at within in
    elim (cases_lt i at) [
      | inl less ↦ record { place = i; below = omega (arith, less, within); read = get_or-remove_below index at 0 i less within; which = inl (less, refl) }
      | inr more ↦ record { place = i + 1; below = omega (arith, h, shorter); read = get_or-remove_above index at 0 i more within; which = inr (omega (arith, more), refl) }
    ]

module _ (names : List ClientId) (index : List ℕ) (at g : ℕ) (is : IsIndex names index) (within : at < length index) (here : get_or index at 0 ≡ g) where
  gone-below : g < length names
  gone-below = omega (arith, sym here, is.within at within)

  shorter : length (remove index at) + 1 ≡ length index
  shorter = length-remove index at within

  fewer : length (remove names g) + 1 ≡ length names
  fewer = length-remove names g gone-below

  len : length (map (closed g) (remove index at)) ≡ length (remove index at)
  len = length-map (remove index at) (closed g)

  kept : (i : ℕ) → (f : From index at i) → get_or index f.place 0 ≡ g → ⊥
  kept i f same = other-place names index f.place at is (elim f.which [ inl w ↦ inl w.0 | inr w ↦ inr w.0 ]) f.below within (same ∙ sym here)

  read-there : (i : ℕ) → i < length (remove index at) → (f : From index at i) → get_or (map (closed g) (remove index at)) i 0 ≡ closed g (get_or index f.place 0)
  read-there i h f = get_or-mapped (closed g) (remove index at) i h ∙ ap (closed g) f.read

  smaller : (k : ℕ) → (k ≡ g → ⊥) → k < length names → closed g k < length (remove names g)
  smaller k other h = elim (side g k other) [
    | Low less e ↦ omega (arith, e, less, gone-below, fewer)
    | High more e ↦ omega (arith, e, more, h, fewer)
  ]

  within-less : (i : ℕ) → i < length (map (closed g) (remove index at)) → get_or (map (closed g) (remove index at)) i 0 < length (remove names g)
  within-less i h =
      let h' : i < length (remove index at) = omega (arith, h, len) in
      let f = from-there index at i within h' in
      omega (arith, read-there i h' f, smaller (get_or index f.place 0) (kept i f) (is.within f.place f.below))

  rising-less : (i j : ℕ) → i < j → j < length (map (closed g) (remove index at)) → place_cmp (remove names g) (get_or (map (closed g) (remove index at)) i 0) (get_or (map (closed g) (remove index at)) j 0) ≡ Less
  rising-less i j h l =
      let m : j < length (remove index at) = omega (arith, l, len) in
      let n : i < length (remove index at) = omega (arith, h, m) in
      let e = from-there index at i within n in
      let f = from-there index at j within m in
      let up : e.place < f.place = elim e.which [ inl v ↦ elim f.which [ inl w ↦ omega (arith, h, v.1, w.1) | inr w ↦ omega (arith, v.0, w.0) ] | inr v ↦ elim f.which [ inl w ↦ omega (arith, h, v.0, v.1, w.0, w.1) | inr w ↦ omega (arith, h, v.1, w.1) ] ] in
      ap (λ k. place_cmp (remove names g) k (get_or (map (closed g) (remove index at)) j 0)) (read-there i n e) ∙ ap (λ k. place_cmp (remove names g) (closed g (get_or index e.place 0)) k) (read-there j m f) ∙ place_cmp-kept names g (get_or index e.place 0) (get_or index f.place 0) gone-below (kept i e) (kept j f) (is.rising e.place f.place up f.below)

  -- the earlier place of a remaining name
  covers-one : (k i : ℕ) → (k ≡ g → ⊥) → i < length index → get_or index i 0 ≡ k → (j : ℕ) × (j < length (map (closed g) (remove index at))) × (get_or (map (closed g) (remove index at)) j 0 ≡ closed g k)
  covers-one k i other h found = elim (cases_lt i at) [
    | inl less ↦
        let below : i < length (remove index at) = omega (arith, less, within, shorter) in
        (i, omega (arith, below, len), get_or-mapped (closed g) (remove index at) i below ∙ ap (closed g) (get_or-remove_below index at 0 i less within ∙ found))
    | inr more ↦ elim (cases_lt at i) [
      | inl greater ↦
          let below : i - 1 < length (remove index at) = omega (arith, greater, h, shorter) in
          let next : i - 1 + 1 ≡ i = omega (arith, greater) in
          (i - 1, omega (arith, below, len), get_or-mapped (closed g) (remove index at) (i - 1) below ∙ ap (closed g) (get_or-remove_above index at 0 (i - 1) (omega (arith, greater)) within ∙ ap (λ m. get_or index m 0) next ∙ found))
      | inr no_greater ↦ let same : i ≡ at = omega (arith, more, no_greater) in absurd (other (sym found ∙ ap (λ m. get_or index m 0) same ∙ here))
    ]
  ]

  covers-less : (k : ℕ) → k < length (remove names g) → (j : ℕ) × (j < length (map (closed g) (remove index at))) × (get_or (map (closed g) (remove index at)) j 0 ≡ k)
  covers-less k h = elim (cases_lt k g) [
    | inl less ↦
        let c = is.covers k (omega (arith, h, fewer)) in
        let d = covers-one k c.0 (λ e. omega (arith, less, e)) c.1 c.2 in
        (d.0, d.1, d.2 ∙ closed-below g k less)
    | inr more ↦
        let c = is.covers (k + 1) (omega (arith, h, fewer)) in
        let d = covers-one (k + 1) c.0 (λ e. omega (arith, more, e)) c.1 c.2 in
        let back : k + 1 - 1 ≡ k = omega arith in
        (d.0, d.1, d.2 ∙ closed-above g (k + 1) (omega (arith, more)) ∙ back)
  ]

  pub less : IsIndex (remove names g) (map (closed g) (remove index at))
  less = record {
    count = omega (arith, len, shorter, fewer, is.count);
    few = omega (arith, fewer, is.few);
    within = within-less;
    covers = covers-less;
    rising = rising-less;
  }
