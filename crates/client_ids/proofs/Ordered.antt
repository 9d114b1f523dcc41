use Rattle.std.proofs.Common.{◌≡◌, refl, sym, ap, ◌∙◌, ℕ, suc, ◌-◌, ◌≤◌, ◌<◌, Bool, true, false, ◌&&◌, ◌||◌, ◌==◌, ◌*◌, nat_lt, cond, List, [], ◌∷◌, length, get_or, ◌⊎◌, inl, inr, Some, bytes_eq, arith}
use Rattle.std.specs.List.{list_any}
use Rattle.std.specs.declared.cmp.Ordering.{Ordering}
use Rattle.std.specs.declared.cmp.Ordering.TheVariants.{Less, Equal, Greater}
use Rattle.std.specs.Ordering.{is_eq, is_gt, nat_cmp, ordering_then, ordering_index, ordering_reverse}
use Rattle.std.specs.Cmp.{IsTotalOrder}
use Rattle.std.specs.Cmp.Lexicographic.{slice_cmp}
use Rattle.std.proofs.lemmas.Cmp.{nat_cmp_total, nat_list_cmp_total, nat_list_eq_equiv, on_total, then_total, tied_itself, alike_right}
use Rattle.std.proofs.lemmas.Bool.{cases_lt}
use Rattle.std.proofs.lemmas.Bool.Decides.{nat_tests}
use Rattle.std.proofs.lemmas.Map.Text.{is_eq-slice_cmp}
use Rattle.std.proofs.lemmas.Slice.Eq.{bytes_eq-Decides}
use Rattle.std.proofs.lemmas.List.Folds.{list_any_at}
use Rattle.client_ids.specs.declared.client_id.ClientId.{ClientId}
use Rattle.client_ids.specs.Search.{AreRising, IsPlace}
use Rattle.client_ids.specs.ClientIds.{hash_key_of, spelled_order, name_order, name_cmp, is_of, no_name, name_at, place_cmp, IsIndex, IsFirst, answer_at, answer_behind, lowered}

-- the order of names is total

pub name_total : IsTotalOrder name_cmp
name_total = then_total (on_total (λ (n : ClientId). hash_key_of n.who n.id) nat_cmp_total) (then_total (on_total (λ (n : ClientId). n.who) nat_cmp_total) (on_total (λ (n : ClientId). n.id) nat_list_cmp_total))

-- of two names in order, the first compares no higher with a third

record Ranks (x y : Ordering) : Type 0 where
  less : y ≡ Less → x ≡ Less
  equal : y ≡ Equal → is_gt x ≡ false

ranks-index : (x y : Ordering) → Ranks x y → ordering_index x ≤ ordering_index y
ranks-index x Less r = rw (r.less refl) (omega arith)
ranks-index Less Equal r = omega arith
ranks-index Equal Equal r = omega arith
ranks-index Greater Equal r = let h = r.equal refl in cc
ranks-index Less Greater r = omega arith
ranks-index Equal Greater r = omega arith
ranks-index Greater Greater r = omega arith

rise-less : (a b q : ClientId) → name_cmp a b ≡ Less → ordering_index (name_cmp a q) ≤ ordering_index (name_cmp b q)
rise-less a b q h = ranks-index (name_cmp a q) (name_cmp b q) (record {
  less = λ e. name_total.trans a b q h e;
  equal = λ e. ap is_gt (sym (alike_right name_total b q a e) ∙ h);
})

rise-equal : (a b q : ClientId) → name_cmp a b ≡ Equal → ordering_index (name_cmp a q) ≤ ordering_index (name_cmp b q)
rise-equal a b q h = let same = ap ordering_index (name_total.congr a b q h) in omega (arith, same)

-- the order of two places gives the order of their names

pub record Then (o p : Ordering) : Type 0 where
  pub which : (o ≡ Less) ⊎ ((o ≡ Equal) × (p ≡ Less))

pub then-less : (o p : Ordering) → ordering_then o p ≡ Less → Then o p
then-less Less p h = record { which = inl refl }
then-less Equal p h = record { which = inr (refl, h) }
then-less Greater p h = cc

pub nat-less : (a b : ℕ) → nat_cmp a b ≡ Less → a < b
nat-less a b h = less (nat_lt a b) (a == b) a b refl h
  where
    less : (s t : Bool) (a b : ℕ) → nat_lt a b ≡ s → cond s Less (cond t Equal Greater) ≡ Less → a < b
    less true t a b e h = grind (arith, nat_tests)
    less false true a b e h = cc
    less false false a b e h = cc

pub less-nat : (a b : ℕ) → a < b → nat_cmp a b ≡ Less
less-nat a b h = let t : nat_lt a b ≡ true = grind (arith, nat_tests) in ap (λ s. cond s Less (cond (a == b) Equal Greater)) t

rise : (names : List ClientId) (a b : ℕ) (q : ClientId) → place_cmp names a b ≡ Less → ordering_index (name_cmp (name_at names a) q) ≤ ordering_index (name_cmp (name_at names b) q)
rise names a b q h = elim (then-less (name_cmp (name_at names a) (name_at names b)) (nat_cmp a b) h).which [
  | inl l ↦ rise-less (name_at names a) (name_at names b) q l
  | inr e ↦ rise-equal (name_at names a) (name_at names b) q e.0
]

-- the answers of an index rise

pub rising-at : (names : List ClientId) (index : List ℕ) (who : ℕ) (id : List ℕ) → IsIndex names index → AreRising (answer_at names index who id) (length index)
rising-at names index who id is i j h l = elim (cases_lt i j) [
  | inl less ↦ rise names (get_or index i 0) (get_or index j 0) (record { who = who; id = id }) (is.rising i j less l)
  | inr no_less ↦ let same : i ≡ j = omega (arith, h, no_less) in let answers = ap (λ k. ordering_index (answer_at names index who id k)) same in omega (arith, answers)
]

low-index : (o : Ordering) → ordering_index (lowered o) ≡ 2 * (ordering_index o - 1)
low-index Less = refl
low-index Equal = refl
low-index Greater = refl

pub rising-behind : (names : List ClientId) (index : List ℕ) (who : ℕ) (id : List ℕ) → IsIndex names index → AreRising (answer_behind names index who id) (length index)
rising-behind names index who id is i j h l = omega (arith, rising-at names index who id is i j h l, low-index (answer_at names index who id i), low-index (answer_at names index who id j))

-- a name is a participant's identifier where it compares as equal

spelled-of : (who : ℕ) (id : List ℕ) (n : ClientId) → is_of who id n ≡ is_eq (spelled_order n who id)
spelled-of who id n = by_who (nat_lt n.who who) (n.who == who) (who == n.who) n.who who n.id id refl refl refl (nat_list_eq_equiv.symm id n.id ∙ sym (is_eq-slice_cmp n.id id))
  where
    by_who : (s t u : Bool) (w v : ℕ) (a b : List ℕ) → nat_lt w v ≡ s → (w == v) ≡ t → (v == w) ≡ u → bytes_eq b a ≡ is_eq (slice_cmp nat_cmp a b) → (u && bytes_eq b a) ≡ is_eq (ordering_then (cond s Less (cond t Equal Greater)) (slice_cmp nat_cmp a b))
    by_who true t true w v a b e f g h = absurd (grind (arith, nat_tests))
    by_who true t false w v a b e f g h = refl
    by_who false true true w v a b e f g h = h
    by_who false true false w v a b e f g h = absurd (grind (arith, nat_tests))
    by_who false false true w v a b e f g h = absurd (grind (arith, nat_tests))
    by_who false false false w v a b e f g h = refl

-- a function of a name's participant and bytes is the same for each equal name
pub one-name : {X : Type 0} (f : ℕ → List ℕ → X) (who : ℕ) (id : List ℕ) (n : ClientId) → is_of who id n ≡ true → f n.who n.id ≡ f who id
one-name f who id n h = let parts = both (who == n.who) (bytes_eq id n.id) h in ap (λ w. f w n.id) (sym (same who n.who parts.0)) ∙ ap (f who) (sym ((bytes_eq-Decides id n.id).0 parts.1))
  where
    both : (a b : Bool) → (a && b) ≡ true → (a ≡ true) × (b ≡ true)
    both true b h = (refl, h)
    both false b h = cc

    same : (a b : ℕ) → (a == b) ≡ true → a ≡ b
    same a b h = grind (arith, nat_tests)

not_then : (o p : Ordering) → is_eq p ≡ false → is_eq (ordering_then o p) ≡ false
not_then Less p h = refl
not_then Equal p h = h
not_then Greater p h = refl

pub is_of-order : (who : ℕ) (id : List ℕ) (n : ClientId) → is_of who id n ≡ is_eq (name_order n who id)
is_of-order who id n = by (is_of who id n) refl
  where
    by : (b : Bool) → is_of who id n ≡ b → is_of who id n ≡ is_eq (name_order n who id)
    by true e =
        let tied : nat_cmp (hash_key_of n.who n.id) (hash_key_of who id) ≡ Equal = ap (λ m. nat_cmp m (hash_key_of who id)) (one-name hash_key_of who id n e) ∙ tied_itself nat_cmp_total (hash_key_of who id) in
        spelled-of who id n ∙ ap (λ o. is_eq (ordering_then o (spelled_order n who id))) (sym tied)
    by false e = e ∙ sym (not_then (nat_cmp (hash_key_of n.who n.id) (hash_key_of who id)) (spelled_order n who id) (sym (spelled-of who id n) ∙ e))

other-index : (o : Ordering) → (ordering_index o ≡ 1 → ⊥) → is_eq o ≡ false
other-index Less h = refl
other-index Equal h = absurd (h refl)
other-index Greater h = refl

one-index : (o : Ordering) → ordering_index o ≡ 1 → o ≡ Equal
one-index Less h = absurd (omega (arith, h))
one-index Equal h = refl
one-index Greater h = absurd (omega (arith, h))

-- a name after an equal one, and not equal to it

reversed-less : (o p : Ordering) → o ≡ ordering_reverse p → p ≡ Less → ordering_index o ≡ 2
reversed-less o Less h e = ap ordering_index h
reversed-less o Equal h e = cc
reversed-less o Greater h e = cc

not_behind : (names : List ClientId) (who : ℕ) (id : List ℕ) (a b : ℕ) → name_order (name_at names a) who id ≡ Equal → place_cmp names a b ≡ Less → b < a → name_order (name_at names b) who id ≡ Equal → ⊥
not_behind names who id a b same h l equal = elim (then-less (name_cmp (name_at names a) (name_at names b)) (nat_cmp a b) h).which [
  | inl less ↦ let e : Less ≡ Equal = sym less ∙ alike_right name_total (name_at names b) (record { who = who; id = id }) (name_at names a) equal ∙ same in cc
  | inr e ↦ omega (arith, nat-less a b e.1, l)
]

-- the place that a search found has the first occurrence of its name

first-least : (names : List ClientId) (index : List ℕ) (who : ℕ) (id : List ℕ) (place : ℕ) → IsIndex names index → place < length index → name_order (name_at names (get_or index place 0)) who id ≡ Equal → ((k : ℕ) → k < place → ordering_index (answer_at names index who id k) ≡ 0)
    → (j : ℕ) → j < get_or index place 0 → is_of who id (name_at names j) ≡ false
first-least names index who id place is within equal below j h =
    let c = is.covers j (omega (arith, h, is.within place within)) in
    let no_one : ordering_index (name_order (name_at names (get_or index c.0 0)) who id) ≡ 1 → ⊥ = λ one. elim (cases_lt c.0 place) [
      | inl less ↦ omega (arith, below c.0 less, one)
      | inr more ↦ elim (cases_lt place c.0) [
        | inl behind ↦ not_behind names who id (get_or index place 0) (get_or index c.0 0) equal (is.rising place c.0 behind c.1) (omega (arith, h, c.2)) (one-index (name_order (name_at names (get_or index c.0 0)) who id) one)
        | inr no_more ↦ let same : get_or index c.0 0 ≡ get_or index place 0 = ap (λ k. get_or index k 0) (omega (arith, more, no_more)) in omega (arith, same, h, c.2)
      ]
    ] in
    is_of-order who id (name_at names j) ∙ ap (λ k. is_eq (name_order (name_at names k) who id)) (sym c.2) ∙ other-index (name_order (name_at names (get_or index c.0 0)) who id) no_one

pub first-found : (names : List ClientId) (index : List ℕ) (who : ℕ) (id : List ℕ) (place : ℕ) → IsIndex names index → IsPlace (answer_at names index who id) (length index) place true → IsFirst names who id (Some (get_or index place 0))
first-found names index who id place is p =
    let equal : name_order (name_at names (get_or index place 0)) who id ≡ Equal = one-index (name_order (name_at names (get_or index place 0)) who id) (p.here refl).1 in (
      is.within place (p.here refl).0,
      is_of-order who id (name_at names (get_or index place 0)) ∙ ap is_eq equal,
      first-least names index who id place is (p.here refl).0 equal p.below,
    )

none_any : (p : ClientId → Bool) (xs : List ClientId) (d : ClientId) → ((k : ℕ) → k < length xs → p (get_or xs k d) ≡ false) → list_any p xs ≡ false
none_any p [] d h = refl
none_any p (x ∷ xs) d h = both (p x) (list_any p xs) (h 0 (omega arith)) (none_any p xs d (λ k l. h (suc k) (omega (arith, l))))
  where
    both : (b c : Bool) → b ≡ false → c ≡ false → (b || c) ≡ false
    both true c e f = e
    both false c e f = f

pub none-found : (names : List ClientId) (index : List ℕ) (who : ℕ) (id : List ℕ) (place : ℕ) → IsIndex names index → IsPlace (answer_at names index who id) (length index) place false → list_any (is_of who id) names ≡ false
none-found names index who id place is p = none_any (is_of who id) names no_name (λ k l.
    let c = is.covers k l in
    let no_one : ordering_index (name_order (name_at names (get_or index c.0 0)) who id) ≡ 1 → ⊥ = λ one. elim (cases_lt c.0 place) [
      | inl less ↦ omega (arith, p.below c.0 less, one)
      | inr more ↦ omega (arith, p.nowhere refl c.0 more c.1, one)
    ] in
    is_of-order who id (name_at names k) ∙ ap (λ j. is_eq (name_order (name_at names j) who id)) (sym c.2) ∙ other-index (name_order (name_at names (get_or index c.0 0)) who id) no_one)

pub some-found : (names : List ClientId) (who : ℕ) (id : List ℕ) (k : ℕ) → IsFirst names who id (Some k) → list_any (is_of who id) names ≡ true
some-found names who id k h = list_any_at (is_of who id) names k no_name h.0 h.1
