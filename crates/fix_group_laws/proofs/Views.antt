-- The effect of a field on the open groups.
use Rattle.std.proofs.Common.{◌≡◌, ℕ, ◌+◌, true, false, List, refl, sym, ap, ◌∙◌, arith, ◌==◌, Option, Some, None, inl, inr}
use Rattle.std.proofs.lemmas.Bool.Decides.{nat_tests}
use Rattle.std.proofs.lemmas.Bool.{cases_eq, cases_Bool}
use Rattle.fix_validation.specs.declared.table.Row.{Row}
use Rattle.fix_validation.specs.declared.positions.FieldPosition.TheVariants.{Unknown, InPart, Begins, Misplaced}
use Rattle.fix_validation.specs.declared.positions.OpenGroup.{OpenGroup}
use Rattle.fix_validation.specs.declared.positions.State.{State}
use Rattle.fix_validation.specs.Stated.{some_or}
use Rattle.fix_validation.specs.Positions.{group_of, first_tag, opened, opened_in, goes_on, misplaced, unopened, outer_step, inner_step, step_in, step}

-- the instance that a group has begun
abbrev pub begun_at : ℕ → OpenGroup → OpenGroup
begun_at n p = record { group = p.group; around = p.around; instance = Some n }

-- the effect of a field: its role, and its step
pub data View (header rows : List Row) (s : State) (t : ℕ) : Type 0 where
  aside : group_of t rows ≡ None → step header rows s t ≡ record { position = Unknown; state = s } → View header rows s t
  headed : (x : ℕ) → group_of t header ≡ Some x → step header rows s t ≡ record { position = InPart 0; state = s } → View header rows s t
  closes : group_of t rows ≡ Some 0 → step header rows s t ≡ record { position = InPart 0; state = record { begun = s.begun; outer = opened rows t 0; inner = None } } → View header rows s t
  begins_outer : (p : OpenGroup) → s.outer ≡ Some p → group_of t rows ≡ Some p.group → t ≡ first_tag p.group rows
      → step header rows s t ≡ record { position = Begins (s.begun + 1) p.around; state = record { begun = s.begun + 1; outer = Some (begun_at (s.begun + 1) p); inner = opened_in rows t (Some (s.begun + 1)) } } → View header rows s t
  goes_outer : (p : OpenGroup) (q : ℕ) → s.outer ≡ Some p → p.instance ≡ Some q → group_of t rows ≡ Some p.group → (t == first_tag p.group rows) ≡ false
      → step header rows s t ≡ record { position = InPart q; state = record { begun = s.begun; outer = Some p; inner = opened_in rows t (Some q) } } → View header rows s t
  begins_inner : (o : OpenGroup) → s.inner ≡ Some o → group_of t rows ≡ Some o.group → t ≡ first_tag o.group rows
      → step header rows s t ≡ record { position = Begins (s.begun + 1) o.around; state = record { begun = s.begun + 1; outer = s.outer; inner = Some (begun_at (s.begun + 1) o) } } → View header rows s t
  goes_inner : (o : OpenGroup) (r : ℕ) → s.inner ≡ Some o → o.instance ≡ Some r → group_of t rows ≡ Some o.group → (t == first_tag o.group rows) ≡ false
      → step header rows s t ≡ record { position = InPart r; state = record { begun = s.begun; outer = s.outer; inner = Some o } } → View header rows s t
  strays : (q : ℕ) (x : State) → step header rows s t ≡ record { position = Misplaced q; state = x } → View header rows s t

module _ (header rows : List Row) (s : State) (t : ℕ) where
  -- a member of a group that is not open
  unopened_view : (p : OpenGroup) (h : ℕ) (i : Option ℕ) → step header rows s t ≡ unopened rows s p h i → View header rows s t
  unopened_view p h None d = strays 0 _ d
  unopened_view p h (Some q) d =
      elim (cases_Bool (some_or 0 (group_of h rows) == p.group)) [
        | inl same ↦
            let e : step header rows s t ≡ record { position = Misplaced q; state = record { begun = s.begun; outer = s.outer; inner = None } } = d ∙ rw same refl in
            strays q _ e
        | inr other ↦
            let e : step header rows s t ≡ misplaced s = d ∙ rw other refl in
            strays 0 _ e
      ]

  -- a tag of a group, where another one is open, or this one: then its first tag, or another of its tags
  by_member : (p : OpenGroup) (h : ℕ) → group_of t rows ≡ Some h
      → ((p.group == h) ≡ true → group_of t rows ≡ Some p.group → t ≡ first_tag p.group rows → (t == first_tag p.group rows) ≡ true → View header rows s t)
      → ((p.group == h) ≡ true → group_of t rows ≡ Some p.group → (t == first_tag p.group rows) ≡ false → View header rows s t)
      → ((p.group == h) ≡ false → View header rows s t) → View header rows s t
  by_member p h own begins goes others =
      elim (cases_eq p.group h) [
        | inl same ↦
            let test : (p.group == h) ≡ true = grind (arith, nat_tests) in
            let of : group_of t rows ≡ Some p.group = own ∙ ap (λ (n : ℕ). Some n) (sym same) in
            elim (cases_eq t (first_tag p.group rows)) [
              | inl first ↦ begins test of first (grind (arith, nat_tests))
              | inr later ↦ goes test of (grind (arith, nat_tests))
            ]
        | inr other ↦ others (grind (arith, nat_tests))
      ]

  -- a member of the outer group, not its first
  goes_on_outer : (p : OpenGroup) → s.outer ≡ Some p → group_of t rows ≡ Some p.group → (t == first_tag p.group rows) ≡ false → (i : Option ℕ) → p.instance ≡ i
      → step header rows s t ≡ record { position = goes_on p i; state = record { begun = s.begun; outer = Some p; inner = opened_in rows t i } } → View header rows s t
  goes_on_outer p is_open own other None e d = strays p.around _ d
  goes_on_outer p is_open own other (Some q) e d = goes_outer p q is_open e own other d

  outer_view : (h : ℕ) → group_of t rows ≡ Some h → (o : Option OpenGroup) → s.outer ≡ o → step header rows s t ≡ outer_step rows s t h o → View header rows s t
  outer_view h own None is_open d = strays 0 _ d
  outer_view h own (Some p) is_open d =
      by_member p h own
      (λ test of first is_first. begins_outer p is_open of first (d ∙ rw (test, is_first) refl))
      (λ test of later. goes_on_outer p is_open of later p.instance refl (d ∙ rw (test, later) refl))
      (λ test. unopened_view p h p.instance (d ∙ rw test refl))

  -- a member of the inner group, not its first
  goes_on_inner : (o : OpenGroup) → s.inner ≡ Some o → group_of t rows ≡ Some o.group → (t == first_tag o.group rows) ≡ false → (i : Option ℕ) → o.instance ≡ i
      → step header rows s t ≡ record { position = goes_on o i; state = record { begun = s.begun; outer = s.outer; inner = Some o } } → View header rows s t
  goes_on_inner o is_open own other None e d = strays o.around _ d
  goes_on_inner o is_open own other (Some r) e d = goes_inner o r is_open e own other d

  inner_view : (h : ℕ) → group_of t rows ≡ Some h → (o : Option OpenGroup) → s.inner ≡ o → step header rows s t ≡ inner_step rows s t h o → View header rows s t
  inner_view h own None is_open d = outer_view h own s.outer refl d
  inner_view h own (Some o) is_open d =
      by_member o h own
      (λ test of first is_first. begins_inner o is_open of first (d ∙ rw (test, is_first) refl))
      (λ test of later. goes_on_inner o is_open of later o.instance refl (d ∙ rw (test, later) refl))
      (λ test. outer_view h own s.outer refl (d ∙ rw test refl))

  step_view : (w : Option ℕ) → group_of t rows ≡ w → step header rows s t ≡ step_in rows s t w → View header rows s t
  step_view None own d = aside own d
  step_view (Some h) own d =
      elim (cases_eq h 0) [
        | inl none ↦
            let test : (h == 0) ≡ true = grind (arith, nat_tests) in
            closes (own ∙ ap (λ (n : ℕ). Some n) none) (d ∙ rw test refl)
        | inr some ↦
            let test : (h == 0) ≡ false = grind (arith, nat_tests) in
            let e : step header rows s t ≡ inner_step rows s t h s.inner = d ∙ rw test refl in
            inner_view h own s.inner refl e
      ]

  header_view : (w : Option ℕ) → group_of t header ≡ w → View header rows s t
  header_view None e = step_view (group_of t rows) refl (rw e refl)
  header_view (Some x) e = headed x e (rw e refl)

  pub view : View header rows s t
  view = header_view (group_of t header) refl
