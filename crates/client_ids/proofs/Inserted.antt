use Rattle.std.proofs.Common.{◌≡◌, refl, ap, ◌∙◌, ℕ, ◌+◌, ◌-◌, ◌≤◌, ◌<◌, ◌^◌, Bool, List, [], ◌∷◌, ◌++◌, length, get_or, inl, inr, arith}
use Rattle.std.specs.List.{insert}
use Rattle.std.specs.declared.cmp.Ordering.{Ordering}
use Rattle.std.specs.declared.cmp.Ordering.TheVariants.{Less, Equal, Greater}
use Rattle.std.specs.Ordering.{nat_cmp, ordering_then, ordering_index, ordering_reverse}
use Rattle.std.proofs.lemmas.Bool.{cases_lt}
use Rattle.std.proofs.lemmas.List.{length_push, get_or_append_left}
use Rattle.std.proofs.lemmas.List.Edits.{length-insert, get_or-insert_below, get_or-insert_at, get_or-insert_above}
use Rattle.std.proofs.Math.Seq.{get_or-append_seam}
use Rattle.client_ids.specs.declared.client_id.ClientId.{ClientId}
use Rattle.client_ids.specs.Search.{IsPlace}
use Rattle.client_ids.specs.ClientIds.{name_cmp, no_name, name_at, place_cmp, IsIndex, answer_behind, lowered}
use Rattle.client_ids.proofs.Ordered.{name_total, less-nat}

-- insertion of a name after those that are not greater

-- the earlier names, and the new one
name-before : (names : List ClientId) (n : ClientId) (k : ℕ) → k < length names → name_at (names ++ n ∷ []) k ≡ name_at names k
name-before names n k h = get_or_append_left names (n ∷ []) no_name k h

name-new : (names : List ClientId) (n : ClientId) → name_at (names ++ n ∷ []) (length names) ≡ n
name-new names n = get_or-append_seam names n [] no_name

place_cmp-before : (names : List ClientId) (n : ClientId) (a b : ℕ) → a < length names → b < length names → place_cmp names a b ≡ Less → place_cmp (names ++ n ∷ []) a b ≡ Less
place_cmp-before names n a b h l e = ap (λ x. ordering_then (name_cmp x (name_at (names ++ n ∷ []) b)) (nat_cmp a b)) (name-before names n a h) ∙ ap (λ y. ordering_then (name_cmp (name_at names a) y) (nat_cmp a b)) (name-before names n b l) ∙ e

lower : (o p : Ordering) → ordering_index (lowered o) ≡ 0 → p ≡ Less → ordering_then o p ≡ Less
lower Less p h e = refl
lower Equal p h e = e
lower Greater p h e = absurd (omega (arith, h))

place_cmp-new : (names : List ClientId) (n : ClientId) (a : ℕ) → a < length names → ordering_index (lowered (name_cmp (name_at names a) n)) ≡ 0 → place_cmp (names ++ n ∷ []) a (length names) ≡ Less
place_cmp-new names n a h low = ap (λ x. ordering_then (name_cmp x (name_at (names ++ n ∷ []) (length names))) (nat_cmp a (length names))) (name-before names n a h) ∙ ap (λ y. ordering_then (name_cmp (name_at names a) y) (nat_cmp a (length names))) (name-new names n) ∙ lower (name_cmp (name_at names a) n) (nat_cmp a (length names)) low (less-nat a (length names) h)

higher : (o : Ordering) → 1 ≤ ordering_index (lowered o) → ordering_reverse o ≡ Less
higher Less h = absurd (omega (arith, h))
higher Equal h = absurd (omega (arith, h))
higher Greater h = refl

new-place_cmp : (names : List ClientId) (n : ClientId) (b : ℕ) → b < length names → 1 ≤ ordering_index (lowered (name_cmp (name_at names b) n)) → place_cmp (names ++ n ∷ []) (length names) b ≡ Less
new-place_cmp names n b h high =
    let less : name_cmp n (name_at names b) ≡ Less = name_total.antisymm n (name_at names b) ∙ higher (name_cmp (name_at names b) n) high in
    ap (λ x. ordering_then (name_cmp x (name_at (names ++ n ∷ []) b)) (nat_cmp (length names) b)) (name-new names n) ∙ ap (λ y. ordering_then (name_cmp n y) (nat_cmp (length names) b)) (name-before names n b h) ∙ ap (λ o. ordering_then o (nat_cmp (length names) b)) less

-- the origin of a place of the longer index
data Spot (index : List ℕ) (at new i : ℕ) : Type 0 where
  Before : i < at → get_or (insert index at new) i 0 ≡ get_or index i 0 → Spot index at new i
  Here : i ≡ at → get_or (insert index at new) i 0 ≡ new → Spot index at new i
  Behind : (m : ℕ) → i ≡ m + 1 → at ≤ m → get_or (insert index at new) i 0 ≡ get_or index m 0 → Spot index at new i

spot : (index : List ℕ) (at new i : ℕ) → at ≤ length index → Spot index at new i
spot index at new i h = elim (cases_lt i at) [
  | inl less ↦ Before less (get_or-insert_below index at new 0 i less h)
  | inr more ↦ elim (cases_lt at i) [
    | inl greater ↦ let from : i ≡ i - 1 + 1 = omega (arith, greater) in Behind (i - 1) from (omega (arith, greater)) (ap (λ k. get_or (insert index at new) k 0) from ∙ get_or-insert_above index at new 0 (i - 1) (omega (arith, greater)) h)
    | inr no_greater ↦ let here : i ≡ at = omega (arith, more, no_greater) in Here here (ap (λ k. get_or (insert index at new) k 0) here ∙ get_or-insert_at index at new 0 h)
  ]
]

module _ (names : List ClientId) (index : List ℕ) (n : ClientId) (at : ℕ) (found : Bool) (is : IsIndex names index) (p : IsPlace (answer_behind names index n.who n.id) (length index) at found) where
  new_index : List ℕ
  new_index = insert index at (length names)

  long : length new_index ≡ length index + 1
  unfolding new_index
  long = length-insert index at (length names) p.within

  within-new : (i : ℕ) → i < length new_index → get_or new_index i 0 < length (names ++ n ∷ [])
  unfolding new_index
  within-new i h = elim (spot index at (length names) i p.within) [
    | Before less e ↦ omega (arith, e, is.within i (omega (arith, less, p.within)), length_push names n)
    | Here here e ↦ omega (arith, e, length_push names n)
    | Behind m from behind e ↦ omega (arith, e, is.within m (omega (arith, from, h, long)), length_push names n)
  ]

  covers-new : (k : ℕ) → k < length (names ++ n ∷ []) → (i : ℕ) × (i < length new_index) × (get_or new_index i 0 ≡ k)
  unfolding new_index
  covers-new k h = elim (cases_lt k (length names)) [
    | inl less ↦
        let c = is.covers k less in
        elim (cases_lt c.0 at) [
          | inl before ↦ (c.0, omega (arith, c.1, long), get_or-insert_below index at (length names) 0 c.0 before p.within ∙ c.2)
          | inr behind ↦ (c.0 + 1, omega (arith, c.1, long), get_or-insert_above index at (length names) 0 c.0 behind p.within ∙ c.2)
        ]
    | inr more ↦
        let last : length names ≡ k = omega (arith, more, h, length_push names n) in
        (at, omega (arith, p.within, long), get_or-insert_at index at (length names) 0 p.within ∙ last)
  ]

  rising-new : (i j : ℕ) → i < j → j < length new_index → place_cmp (names ++ n ∷ []) (get_or new_index i 0) (get_or new_index j 0) ≡ Less
  unfolding new_index
  rising-new i j h l = by_spots (spot index at (length names) i p.within) (spot index at (length names) j p.within)
    where
      by_spots : Spot index at (length names) i → Spot index at (length names) j → place_cmp (names ++ n ∷ []) (get_or (insert index at (length names)) i 0) (get_or (insert index at (length names)) j 0) ≡ Less
      by_spots (Before less e) (Before less' e') = rw (e, e') (place_cmp-before names n (get_or index i 0) (get_or index j 0) (is.within i (omega (arith, less, p.within))) (is.within j (omega (arith, less', p.within))) (is.rising i j h (omega (arith, less', p.within))))
      by_spots (Before less e) (Here here' e') = rw (e, e') (place_cmp-new names n (get_or index i 0) (is.within i (omega (arith, less, p.within))) (p.below i less))
      by_spots (Before less e) (Behind m from' behind' e') = rw (e, e') (place_cmp-before names n (get_or index i 0) (get_or index m 0) (is.within i (omega (arith, less, p.within))) (is.within m (omega (arith, from', l, long))) (is.rising i m (omega (arith, less, behind')) (omega (arith, from', l, long))))
      by_spots (Here here e) (Before less' e') = absurd (omega (arith, here, less', h))
      by_spots (Here here e) (Here here' e') = absurd (omega (arith, here, here', h))
      by_spots (Here here e) (Behind m from' behind' e') = rw (e, e') (new-place_cmp names n (get_or index m 0) (is.within m (omega (arith, from', l, long))) (p.above m behind' (omega (arith, from', l, long))))
      by_spots (Behind m from behind e) (Before less' e') = absurd (omega (arith, from, behind, less', h))
      by_spots (Behind m from behind e) (Here here' e') = absurd (omega (arith, from, behind, here', h))
      by_spots (Behind m from behind e) (Behind m' from' behind' e') = rw (e, e') (place_cmp-before names n (get_or index m 0) (get_or index m' 0) (is.within m (omega (arith, from, from', h, l, long))) (is.within m' (omega (arith, from', l, long))) (is.rising m m' (omega (arith, from, from', h)) (omega (arith, from', l, long))))

  pub added : length names < 2 ^ 32 → IsIndex (names ++ n ∷ []) (insert index at (length names))
  unfolding new_index
  added headroom = record {
    few = omega (arith, headroom, length_push names n);
    count = omega (arith, long, is.count, length_push names n);
    within = within-new;
    covers = covers-new;
    rising = rising-new;
  }
