-- What a table says of a tag, by one of its groups.
use Rattle.std.proofs.Common.{◌≡◌, ℕ, true, false, Bool, List, refl, sym, ap, ◌∙◌, arith, ◌==◌, ◌&&◌, ◌||◌, not, Option, Some, None, is_some, inl, inr, ◌⊎◌}
use Rattle.std.proofs.lemmas.Bool.Decides.{nat_tests}
use Rattle.std.proofs.lemmas.Bool.{cases_eq, or_parts, true≢false}
use Rattle.fix_fields.specs.Groups.{has, is_member, is_own, is_named}
use Rattle.fix_fields.specs.declared.group.Group.{Group}
use Rattle.fix_validation.specs.declared.table.Row.{Row}
use Rattle.fix_validation.specs.Stated.{some_or}
use Rattle.fix_validation.specs.Positions.{group_of, first_tag, is_count}
use Rattle.fix_group_laws.specs.Tied.{IsOfTable, is_within, is_sibling, stands_in}
use Rattle.fix_group_laws.proofs.States.{none_some, same_some, some_number, unlike_numbers}

-- The table has no tag 0, its header's tags are disjoint, the group's count is in another group or in none, and its
-- first tag in it.
pub record IsTable (header rows : List Row) (tag around : ℕ) (g : Group) : Type 0 where
  pub apart : (t x : ℕ) → group_of t header ≡ Some x → group_of t rows ≡ None
  pub none : group_of 0 rows ≡ None
  pub count : group_of tag rows ≡ Some around
  pub beyond : is_within rows tag (Some around) ≡ false
  pub counts : is_count tag rows ≡ true
  pub first : group_of (first_tag tag rows) rows ≡ Some tag
  pub of : IsOfTable rows tag g

-- a tag that the table names is not 0
pub not_zero : (rows : List Row) → group_of 0 rows ≡ None → (t h : ℕ) → group_of t rows ≡ Some h → 0 ≡ t → ⊥
not_zero rows none t h its zero = none_some h (sym none ∙ ap (λ (t : ℕ). group_of t rows) zero ∙ its)

-- both of two tests hold
pub both : (a b : Bool) → (a && not b) ≡ true → (a ≡ true) × (b ≡ false)
both true false h = (refl, refl)
both true true h = absurd (true≢false (sym h))
both false b h = absurd (true≢false (sym h))

module _ (header rows : List Row) (tag around : ℕ) (g : Group) (table : IsTable header rows tag around g) where
  abbrev first : ℕ
  first = first_tag tag rows

  pub some_tag : 0 ≡ tag → ⊥
  some_tag = not_zero rows table.none tag around table.count

  pub self : (tag == tag) ≡ true
  self = grind (arith, nat_tests)

  member_of : (t : ℕ) → is_member g t ≡ is_within rows tag (group_of t rows)
  member_of t =
      elim (cases_eq t first) [
        | inl same ↦
            let test : (t == g.first) ≡ true = grind (arith, nat_tests, same, table.of.first) in
            let its : group_of t rows ≡ Some tag = ap (λ (t : ℕ). group_of t rows) same ∙ table.first in
            let within : is_within rows tag (group_of t rows) ≡ true = rw (its, self) refl in
            rw (test, within) refl
        | inr other ↦
            let test : (t == g.first) ≡ false = grind (arith, nat_tests, other, table.of.first) in
            let later : (t == first) ≡ false = grind (arith, nat_tests) in
            rw (test, table.of.others t, later) (with_true (is_within rows tag (group_of t rows)))
      ]
    where
      with_true : (b : Bool) → (b && not false) ≡ b
      with_true true = refl
      with_true false = refl

  own_of : (t : ℕ) → is_own g t ≡ ((t == tag) || is_within rows tag (group_of t rows))
  own_of t = rw (table.of.count, member_of t) refl

  -- the header, and tags that the table does not name
  pub unnamed : (t : ℕ) → group_of t rows ≡ None → is_named g t ≡ false
  unnamed t its =
      let unlike = unlike_numbers t tag (λ same. none_some around (sym its ∙ ap (λ (t : ℕ). group_of t rows) same ∙ table.count)) in
      let own : is_own g t ≡ false = own_of t ∙ rw (unlike, its) refl in
      let ends : has g.outside.now t ≡ false = table.of.outside t ∙ ap (is_sibling rows tag t) its in
      rw (own, ends) refl

  -- tags within the group
  named_within : (t : ℕ) → is_within rows tag (group_of t rows) ≡ true → is_named g t ≡ true
  named_within t within = rw (member_of t ∙ within) (by_test (t == g.count) (has g.outside.now t))
    where
      by_test : (a b : Bool) → ((a || true) || b) ≡ true
      by_test true b = refl
      by_test false b = refl

  -- all tags that the table names
  named_of : (t : ℕ) → is_named g t ≡ is_some (group_of t rows)
  named_of t =
      elim (cases_eq t tag) [
        | inl same ↦
            let test : (t == g.count) ≡ true = grind (arith, nat_tests, same, table.of.count) in
            let its : group_of t rows ≡ Some around = ap (λ (t : ℕ). group_of t rows) same ∙ table.count in
            rw (test, its) refl
        | inr other ↦
            let test : (t == g.count) ≡ false = grind (arith, nat_tests, other, table.of.count) in
            let later : (t == tag) ≡ false = grind (arith, nat_tests) in
            rw (test, member_of t, table.of.outside t) (by_place later (group_of t rows))
      ]
    where
      joined : (within count : Bool) → count ≡ false → (within || (not within && not count)) ≡ true
      joined true count other = refl
      joined false count other = rw other refl

      by_place : (t == tag) ≡ false → (w : Option ℕ) → (is_within rows tag w || is_sibling rows tag t w) ≡ is_some w
      by_place later None = refl
      by_place later (Some h) = joined (is_within rows tag (Some h)) (t == tag) later

  -- a group outside of groups, other than this one
  pub other_group : (h : ℕ) → group_of h rows ≡ Some 0 → (h ≡ tag → ⊥) → is_within rows tag (Some h) ≡ false
  other_group h its unlike = rw (unlike_numbers h tag unlike, its, unlike_numbers 0 tag some_tag) refl

  -- a group within another one that is not this one
  pub other_inner : (h k : ℕ) → group_of h rows ≡ Some k → (h ≡ tag → ⊥) → (k ≡ tag → ⊥) → is_within rows tag (Some h) ≡ false
  other_inner h k its unlike outer = rw (unlike_numbers h tag unlike, its, unlike_numbers k tag outer) refl

  -- no group
  pub no_group : is_within rows tag (Some 0) ≡ false
  no_group = let zero = unlike_numbers 0 tag some_tag in rw (zero, table.none, zero) refl

  -- a tag in another group, or outside of groups
  pub foreign : (t h : ℕ) → (t ≡ tag → ⊥) → group_of t rows ≡ Some h → is_within rows tag (Some h) ≡ false → is_own g t ≡ false
  foreign t h unlike its out = own_of t ∙ rw (unlike_numbers t tag unlike, its) out

  -- a tag in another group is not this group's first
  pub no_first : (t h : ℕ) → group_of t rows ≡ Some h → (h ≡ tag → ⊥) → (t == first) ≡ false
  no_first t h its unlike = unlike_numbers t first (λ same. unlike (same_some h tag (sym its ∙ ap (λ (t : ℕ). group_of t rows) same ∙ table.first)))

  -- the count and the first tag
  pub named_count : is_named g tag ≡ true
  named_count = let test : (tag == g.count) ≡ true = grind (arith, nat_tests, table.of.count) in rw test refl

  pub no_member : is_member g tag ≡ false
  no_member = member_of tag ∙ rw table.count table.beyond

  pub first_member : is_member g first ≡ true
  first_member = member_of first ∙ rw (table.first, self) refl

  pub first_named : is_named g first ≡ true
  first_named = named_within first (rw (table.first, self) refl)

  pub first_stands : stands_in tag (group_of first rows) ≡ true
  first_stands = rw table.first self

  -- a tag that is not a member is neither the first tag nor in the group; one that is not its own is not the count
  pub no_member_first : (t : ℕ) → is_member g t ≡ false → (t == first) ≡ false
  no_member_first t out = unlike_numbers t first (λ same. true≢false (sym first_member ∙ ap (is_member g) (sym same) ∙ out))

  pub no_member_in : (t : ℕ) → is_member g t ≡ false → group_of t rows ≡ Some tag → ⊥
  no_member_in t out its =
      let within : is_within rows tag (group_of t rows) ≡ true = rw (its, self) refl in
      true≢false (sym within ∙ sym (member_of t) ∙ out)

  pub not_tag : (t : ℕ) → is_own g t ≡ false → (t == tag) ≡ false
  not_tag t out = rw (← table.of.count) (or_parts (t == g.count) (is_member g t) out).0

  -- a tag in the group, and a tag in a group within it
  pub inside : (t : ℕ) → group_of t rows ≡ Some tag → (t == first) ≡ false
      → (is_named g t ≡ true) × ((has g.others.now t ≡ true) × (stands_in tag (group_of t rows) ≡ true))
  inside t its later =
      let within : is_within rows tag (group_of t rows) ≡ true = rw (its, self) refl in
      let other : has g.others.now t ≡ true = rw (table.of.others t, within, later) refl in
      (named_within t within, (other, rw its self))

  pub deeper : (t h : ℕ) → group_of t rows ≡ Some h → group_of h rows ≡ Some tag → (h ≡ tag → ⊥)
      → (is_named g t ≡ true) × ((has g.others.now t ≡ true) × (stands_in tag (group_of t rows) ≡ false))
  deeper t h its around unlike =
      let other = unlike_numbers h tag unlike in
      let within : is_within rows tag (group_of t rows) ≡ true = rw (its, other, around, self) refl in
      let member : has g.others.now t ≡ true = rw (table.of.others t, within, no_first t h its unlike) refl in
      (named_within t within, (member, rw (its, other) refl))

  -- a member other than the first tag is in the group or in one within it
  pub place_of : (t : ℕ) → has g.others.now t ≡ true → ((t == first) ≡ false) × ((group_of t rows ≡ Some tag) ⊎ ((h : ℕ) × ((group_of t rows ≡ Some h) × ((group_of h rows ≡ Some tag) × (h ≡ tag → ⊥)))))
  place_of t other =
      let tests = both (is_within rows tag (group_of t rows)) (t == first) (sym (table.of.others t) ∙ other) in
      (tests.1, by_group (group_of t rows) refl tests.0)
    where
      by_group : (w : Option ℕ) → group_of t rows ≡ w → is_within rows tag w ≡ true
          → (group_of t rows ≡ Some tag) ⊎ ((h : ℕ) × ((group_of t rows ≡ Some h) × ((group_of h rows ≡ Some tag) × (h ≡ tag → ⊥))))
      by_group None its h = absurd (true≢false (sym h))
      by_group (Some h) its is_in =
          elim (cases_eq h tag) [
            | inl same ↦ inl (its ∙ ap (λ (n : ℕ). Some n) same)
            | inr unlike ↦
                let test = unlike_numbers h tag unlike in
                let within : (some_or 0 (group_of h rows) == tag) ≡ true = rw test at is_in in
                let same : some_or 0 (group_of h rows) ≡ tag = grind (arith, nat_tests, within) in
                inr (h, (its, (some_number tag some_tag (group_of h rows) same, unlike)))
          ]

  -- it is neither the count nor the first tag
  pub other_unlike : (t : ℕ) → has g.others.now t ≡ true → t ≡ tag → ⊥
  other_unlike t other same = true≢false (sym other ∙ ap (has g.others.now) same ∙ (or_parts (tag == g.first) (has g.others.now tag) no_member).1)

  pub first_unlike : first ≡ tag → ⊥
  first_unlike same = true≢false (sym first_member ∙ ap (is_member g) same ∙ no_member)

  -- a tag that is not named is nowhere
  pub nowhere : (t : ℕ) → is_named g t ≡ false → group_of t rows ≡ None
  nowhere t unnamed = by_group (group_of t rows) (sym (named_of t) ∙ unnamed)
    where
      by_group : (w : Option ℕ) → is_some w ≡ false → w ≡ None
      by_group None h = refl
      by_group (Some h) e = absurd (true≢false e)
