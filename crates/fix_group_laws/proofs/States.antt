-- The facts of the open groups, field by field.
use Rattle.std.proofs.Common.{◌≡◌, ℕ, ◌+◌, ◌≤◌, true, false, Bool, List, [], ◌∷◌, refl, sym, ap, ◌∙◌, arith, rules, ◌==◌, ◌&&◌, ◌||◌, Option, Some, None, inl, inr}
use Rattle.std.specs.List.{AllByRecursion}
use Rattle.std.proofs.lemmas.Bool.Decides.{nat_tests}
use Rattle.std.proofs.lemmas.Bool.{cases_eq}
use Rattle.fix_fields.specs.Fields.{Entry}
use Rattle.fix_validation.specs.declared.table.Row.{Row}
use Rattle.fix_validation.specs.declared.positions.FieldPosition.{FieldPosition}
use Rattle.fix_validation.specs.declared.positions.FieldPosition.TheVariants.{Unknown, InPart, Begins, Misplaced}
use Rattle.fix_validation.specs.declared.positions.OpenGroup.{OpenGroup}
use Rattle.fix_validation.specs.declared.positions.State.{State}
use Rattle.fix_validation.specs.declared.positions.Stepped.{Stepped}
use Rattle.fix_validation.specs.Stated.{some_or}
use Rattle.fix_validation.specs.Positions.{LocatedFields, group_of, is_count, opened, opened_in, step_in, header_step, step, located, is_in, part, start}
use Rattle.fix_group_laws.proofs.Views.{view, begun_at, aside, headed, closes, begins_outer, goes_outer, begins_inner, goes_inner, strays}

-- no field is a stray
abbrev pub IsNoStray : FieldPosition → Type 0
IsNoStray Unknown = Unit {0}
IsNoStray (InPart q) = Unit {0}
IsNoStray (Begins q around) = Unit {0}
IsNoStray (Misplaced q) = ⊥

abbrev pub NoStrays : List LocatedFields → Type 0
NoStrays ps = AllByRecursion (λ (p : LocatedFields). IsNoStray p.1) ps

pub none_some : {X : Type 0} (x : X) → None ≡ Some x → ⊥
none_some x h = search (h, rules)

pub same_some : {X : Type 0} (x y : X) → Some x ≡ Some y → x ≡ y
same_some x y h = search (h, rules)

-- a number other than 0, where none stands for 0
pub some_number : (n : ℕ) → (0 ≡ n → ⊥) → (w : Option ℕ) → some_or 0 w ≡ n → w ≡ Some n
some_number n unlike None h = absurd (unlike h)
some_number n unlike (Some m) h = ap (λ (n : ℕ). Some n) h

pub or_true : (a : Bool) → (a || true) ≡ true
or_true true = refl
or_true false = refl

pub and_false : (a : Bool) → (a && false) ≡ false
and_false true = refl
and_false false = refl

abbrev pub opening : ℕ → ℕ → OpenGroup
opening tag part = record { group = tag; around = part; instance = None }

-- the group that a field opens is its own, in its part, with no instance
pub opened_is : (rows : List Row) (tag q : ℕ) (p : OpenGroup) → opened rows tag q ≡ Some p → p ≡ opening tag q
opened_is rows tag q p h = by_count (is_count tag rows) refl
  where
    by_count : (b : Bool) → is_count tag rows ≡ b → p ≡ opening tag q
    by_count true e = sym (same_some (opening tag q) p (rw e at h))
    by_count false e = absurd (none_some p (rw e at h))

-- The outer group's count is outside of groups, and the inner one's in the instance of the outer group; instances are
-- of those that have begun, and the inner group is not the outer one.
pub record IsSound (rows : List Row) (s : State) : Type 0 where
  pub outer : (p : OpenGroup) → s.outer ≡ Some p → (group_of p.group rows ≡ Some 0) × (p.around ≡ 0)
  pub inner : (o : OpenGroup) → s.inner ≡ Some o → (p : OpenGroup) × ((s.outer ≡ Some p) × ((group_of o.group rows ≡ Some p.group) × (p.instance ≡ Some o.around)))
  pub outer_old : (p : OpenGroup) (q : ℕ) → s.outer ≡ Some p → p.instance ≡ Some q → (1 ≤ q) × (q ≤ s.begun)
  pub inner_old : (o : OpenGroup) (r : ℕ) → s.inner ≡ Some o → o.instance ≡ Some r → (1 ≤ r) × (r ≤ s.begun)
  pub unlike : (p o : OpenGroup) (q : ℕ) → s.outer ≡ Some p → s.inner ≡ Some o → p.instance ≡ Some q → o.instance ≡ Some q → ⊥

pub sound_start : (rows : List Row) → IsSound rows start
sound_start rows = record {
  outer = λ p h. absurd (none_some p h);
  inner = λ o h. absurd (none_some o h);
  outer_old = λ p q h k. absurd (none_some p h);
  inner_old = λ o r h k. absurd (none_some o h);
  unlike = λ p o q h k i j. absurd (none_some p h);
}

module _ (rows : List Row) (s : State) (sound : IsSound rows s) (t : ℕ) where
  pub sound_closed : group_of t rows ≡ Some 0 → IsSound rows (record { begun = s.begun; outer = opened rows t 0; inner = None })
  sound_closed own = record {
    outer = λ p h. let e = opened_is rows t 0 p h in (ap (λ (p : OpenGroup). group_of p.group rows) e ∙ own, ap (λ (p : OpenGroup). p.around) e);
    inner = λ o h. absurd (none_some o h);
    outer_old = λ p q h k. absurd (none_some q (sym (ap (λ (p : OpenGroup). p.instance) (opened_is rows t 0 p h)) ∙ k));
    inner_old = λ o r h k. absurd (none_some o h);
    unlike = λ p o q h k i j. absurd (none_some o k);
  }

  pub sound_begun : (p : OpenGroup) → s.outer ≡ Some p → group_of t rows ≡ Some p.group
      → IsSound rows (record { begun = s.begun + 1; outer = Some (begun_at (s.begun + 1) p); inner = opened_in rows t (Some (s.begun + 1)) })
  sound_begun p is_open own = record {
    outer = λ p' h. let e = same_some (begun_at (s.begun + 1) p) p' h in let was = sound.outer p is_open in
        (ap (λ (p : OpenGroup). group_of p.group rows) (sym e) ∙ was.0, ap (λ (p : OpenGroup). p.around) (sym e) ∙ was.1);
    inner = λ o h. let e = opened_is rows t (s.begun + 1) o h in
        (begun_at (s.begun + 1) p, (refl, (ap (λ (o : OpenGroup). group_of o.group rows) e ∙ own, ap (λ (o : OpenGroup). Some o.around) (sym e))));
    outer_old = λ p' q h k. let e = same_some (s.begun + 1) q (ap (λ (p : OpenGroup). p.instance) (same_some (begun_at (s.begun + 1) p) p' h) ∙ k) in
        (grind (arith, e), grind (arith, e));
    inner_old = λ o r h k. absurd (none_some r (sym (ap (λ (p : OpenGroup). p.instance) (opened_is rows t (s.begun + 1) o h)) ∙ k));
    unlike = λ p' o q h k i j. absurd (none_some q (sym (ap (λ (p : OpenGroup). p.instance) (opened_is rows t (s.begun + 1) o k)) ∙ j));
  }

  pub sound_on : (p : OpenGroup) (q : ℕ) → s.outer ≡ Some p → p.instance ≡ Some q → group_of t rows ≡ Some p.group
      → IsSound rows (record { begun = s.begun; outer = Some p; inner = opened_in rows t (Some q) })
  sound_on p q is_open at own = record {
    outer = λ p' h. sound.outer p' (is_open ∙ h);
    inner = λ o h. let e = opened_is rows t q o h in
        (p, (refl, (ap (λ (o : OpenGroup). group_of o.group rows) e ∙ own, at ∙ ap (λ (o : OpenGroup). Some o.around) (sym e))));
    outer_old = λ p' n h k. sound.outer_old p' n (is_open ∙ h) k;
    inner_old = λ o r h k. absurd (none_some r (sym (ap (λ (p : OpenGroup). p.instance) (opened_is rows t q o h)) ∙ k));
    unlike = λ p' o n h k i j. absurd (none_some n (sym (ap (λ (p : OpenGroup). p.instance) (opened_is rows t q o k)) ∙ j));
  }

  pub sound_within : (o : OpenGroup) → s.inner ≡ Some o
      → IsSound rows (record { begun = s.begun + 1; outer = s.outer; inner = Some (begun_at (s.begun + 1) o) })
  sound_within o is_open = record {
    outer = sound.outer;
    inner = λ o' h. let was = sound.inner o is_open in let e = same_some (begun_at (s.begun + 1) o) o' h in
        (was.0, (was.1.0, (ap (λ (o : OpenGroup). group_of o.group rows) (sym e) ∙ was.1.1.0, was.1.1.1 ∙ ap (λ (o : OpenGroup). Some o.around) e)));
    outer_old = λ p q h k. let was = sound.outer_old p q h k in (was.0, grind (arith, was.1));
    inner_old = λ o' r h k. let e = same_some (s.begun + 1) r (ap (λ (p : OpenGroup). p.instance) (same_some (begun_at (s.begun + 1) o) o' h) ∙ k) in
        (grind (arith, e), grind (arith, e));
    unlike = λ p o' q h k i j. let e = same_some (s.begun + 1) q (ap (λ (p : OpenGroup). p.instance) (same_some (begun_at (s.begun + 1) o) o' k) ∙ j) in
        let was = sound.outer_old p q h i in absurd (grind (arith, e, was.1));
  }

  pub sound_inner : (o : OpenGroup) → s.inner ≡ Some o → IsSound rows (record { begun = s.begun; outer = s.outer; inner = Some o })
  sound_inner o is_open = record {
    outer = sound.outer;
    inner = λ o' h. sound.inner o' (is_open ∙ h);
    outer_old = sound.outer_old;
    inner_old = λ o' r h k. sound.inner_old o' r (is_open ∙ h) k;
    unlike = λ p o' q h k i j. sound.unlike p o' q h (is_open ∙ k) i j;
  }

-- Parts that have ended.

-- a part that has begun, and is no instance of a group that is open
pub record IsLeft (q : ℕ) (s : State) : Type 0 where
  pub some : 1 ≤ q
  pub old : q ≤ s.begun
  pub outer : (p : OpenGroup) → s.outer ≡ Some p → p.instance ≡ Some q → ⊥
  pub inner : (o : OpenGroup) → s.inner ≡ Some o → o.instance ≡ Some q → ⊥

module _ (rows : List Row) (s : State) (t q : ℕ) (some : 1 ≤ q) (old : q ≤ s.begun) where
  just_opened : (part : ℕ) (p : OpenGroup) → opened rows t part ≡ Some p → p.instance ≡ Some q → ⊥
  just_opened part p h k = none_some q (sym (ap (λ (p : OpenGroup). p.instance) (opened_is rows t part p h)) ∙ k)

  just_begun : (p p' : OpenGroup) → Some (begun_at (s.begun + 1) p) ≡ Some p' → p'.instance ≡ Some q → ⊥
  just_begun p p' h k =
      let e = same_some (s.begun + 1) q (ap (λ (p : OpenGroup). p.instance) (same_some (begun_at (s.begun + 1) p) p' h) ∙ k) in
      grind (arith, e, old)

  pub left_closed : IsLeft q (record { begun = s.begun; outer = opened rows t 0; inner = None })
  left_closed = record { some = some; old = old; outer = just_opened 0; inner = λ o h k. none_some o h }

  pub left_begun : (p : OpenGroup) → IsLeft q (record { begun = s.begun + 1; outer = Some (begun_at (s.begun + 1) p); inner = opened_in rows t (Some (s.begun + 1)) })
  left_begun p = record { some = some; old = grind (arith, old); outer = just_begun p; inner = just_opened (s.begun + 1) }

  pub left_on : (p : OpenGroup) (n : ℕ) → (p.instance ≡ Some q → ⊥) → IsLeft q (record { begun = s.begun; outer = Some p; inner = opened_in rows t (Some n) })
  left_on p n other = record { some = some; old = old; outer = λ p' h k. other (ap (λ (p : OpenGroup). p.instance) (same_some p p' h) ∙ k); inner = just_opened n }

  pub left_within : (o : OpenGroup) → ((p : OpenGroup) → s.outer ≡ Some p → p.instance ≡ Some q → ⊥)
      → IsLeft q (record { begun = s.begun + 1; outer = s.outer; inner = Some (begun_at (s.begun + 1) o) })
  left_within o other = record { some = some; old = grind (arith, old); outer = other; inner = just_begun o }

-- distinct numbers
pub unlike_numbers : (n m : ℕ) → (n ≡ m → ⊥) → (n == m) ≡ false
unlike_numbers n m other =
    elim (cases_eq n m) [
      | inl same ↦ absurd (other same)
      | inr not_same ↦ grind (arith, nat_tests, not_same)
    ]

module _ (header rows : List Row) where
  -- a part without the field is that of the fields after it
  passed : (q : ℕ) (s : State) (f : Entry) (fs : List Entry) (d : Stepped) → step header rows s f.0 ≡ d → is_in q d.position ≡ false
      → part q (located header rows d.state fs) ≡ [] → part q (located header rows s (f ∷ fs)) ≡ []
  passed q s f fs d e out rest = rw (e, out) rest

  -- a part that has ended gets no more fields
  pub left : (q : ℕ) (fs : List Entry) (s : State) → IsLeft q s → NoStrays (located header rows s fs) → part q (located header rows s fs) ≡ []
  left q [] s gone clear = refl
  left q (f ∷ fs) s gone clear =
      let none : (0 == q) ≡ false = grind (arith, nat_tests, gone.some) in
      let next : ((s.begun + 1) == q) ≡ false = grind (arith, nat_tests, gone.old) in
      elim (view header rows s f.0) [
        | aside its e ↦ passed q s f fs _ e refl (left q fs s gone (rw e at clear.1))
        | headed x its e ↦ passed q s f fs _ e none (left q fs s gone (rw e at clear.1))
        | closes its e ↦ passed q s f fs _ e none (left q fs _ (left_closed rows s f.0 q gone.some gone.old) (rw e at clear.1))
        | begins_outer p is_open its first e ↦ passed q s f fs _ e next (left q fs _ (left_begun rows s f.0 q gone.some gone.old p) (rw e at clear.1))
        | goes_outer p n is_open at its other e ↦ passed q s f fs _ e (unlike_numbers n q (λ same. gone.outer p is_open (at ∙ ap (λ (n : ℕ). Some n) same)))
            (left q fs _ (left_on rows s f.0 q gone.some gone.old p n (gone.outer p is_open)) (rw e at clear.1))
        | begins_inner o is_open its first e ↦ passed q s f fs _ e next (left q fs _ (left_within rows s f.0 q gone.some gone.old o gone.outer) (rw e at clear.1))
        | goes_inner o n is_open at its other e ↦ passed q s f fs _ e (unlike_numbers n q (λ same. gone.inner o is_open (at ∙ ap (λ (n : ℕ). Some n) same)))
            (left q fs _ (record { some = gone.some; old = gone.old; outer = gone.outer; inner = λ o' h k. gone.inner o' (is_open ∙ h) k }) (rw e at clear.1))
        | strays n x e ↦ absurd (rw e at clear.0)
      ]

-- a tag of the table is not one of the header
pub steps : (header rows : List Row) → ((t x : ℕ) → group_of t header ≡ Some x → group_of t rows ≡ None) → (s : State) (t h : ℕ) → group_of t rows ≡ Some h
    → step header rows s t ≡ step_in rows s t (Some h)
steps header rows apart s t h its = by_header (group_of t header) refl
  where
    by_header : (w : Option ℕ) → group_of t header ≡ w → header_step rows s t w ≡ step_in rows s t (Some h)
    by_header None e = rw its refl
    by_header (Some x) e = absurd (none_some h (sym (apart t x e) ∙ its))

-- a tag that the table does not name changes nothing
pub passes : (header rows : List Row) (s : State) (t : ℕ) → group_of t rows ≡ None → (step header rows s t).state ≡ s
passes header rows s t its = by_header (group_of t header)
  where
    by_header : (w : Option ℕ) → (header_step rows s t w).state ≡ s
    by_header None = rw its refl
    by_header (Some x) = refl
