-- The effect of fields on one group of a table.
use Rattle.std.proofs.Common.{◌≡◌, ℕ, ◌+◌, ◌≤◌, ◌<◌, true, false, List, [], ◌∷◌, refl, sym, ap, subst, ◌∙◌, arith, ◌==◌, Option, Some, None}
use Rattle.std.proofs.lemmas.Bool.Decides.{nat_tests}
use Rattle.fix_fields.specs.Fields.{Entry}
use Rattle.fix_fields.specs.Groups.{has, is_own, is_named}
use Rattle.fix_fields.specs.declared.group.Group.{Group}
use Rattle.fix_validation.specs.declared.table.Row.{Row}
use Rattle.fix_validation.specs.declared.positions.FieldPosition.TheVariants.{InPart, Begins}
use Rattle.fix_validation.specs.declared.positions.OpenGroup.{OpenGroup}
use Rattle.fix_validation.specs.declared.positions.State.{State}
use Rattle.fix_validation.specs.declared.positions.Stepped.{Stepped}
use Rattle.fix_validation.specs.Positions.{LocatedFields, group_of, first_tag, step, located, is_in, part, with_begin}
use Rattle.fix_group_laws.specs.Tied.{stands_in}
use Rattle.fix_group_laws.proofs.States.{none_some, same_some}

-- the status of the group: not open, after its count, or in an instance
pub data Status : Type 0 where
  Shut : Status
  Counted : Status
  Inside : ℕ → Status

-- a predicate of the instance, if the group is in one
abbrev pub IfInside : Status → (ℕ → Type 0) → Type 0
IfInside Shut what = Unit {0}
IfInside Counted what = Unit {0}
IfInside (Inside r) what = what r

-- the group is in an instance that satisfies the predicate
abbrev pub IsInside : Status → (ℕ → Type 0) → Type 0
IsInside Shut what = ⊥
IsInside Counted what = ⊥
IsInside (Inside r) what = what r

abbrev pub IsOpen : Status → Type 0
IsOpen Shut = ⊥
IsOpen Counted = Unit {0}
IsOpen (Inside r) = Unit {0}

-- the field is in no later part, and begins no instance of the group
abbrev pub IsQuiet : List Row → ℕ → ℕ → ℕ → LocatedFields → Type 0
IsQuiet rows tag home n p = ((b : ℕ) → n < b → is_in b p.1 ≡ false) × ((rest : List ℕ) → with_begin (first_tag tag rows) home p.0.0 p.1 rest ≡ rest)

-- a field within an earlier part is quiet, and one that begins a part and is not the group's first
pub quiet_within : (rows : List Row) (tag home m q : ℕ) (f : Entry) → q ≤ m → IsQuiet rows tag home m (f, InPart q)
quiet_within rows tag home m q f le = ((λ b h. grind (arith, nat_tests, le, h)), (λ rest. refl))

pub quiet_begins : (rows : List Row) (tag home m around : ℕ) (f : Entry) → (f.0 == first_tag tag rows) ≡ false → IsQuiet rows tag home m (f, Begins m around)
quiet_begins rows tag home m around f other = ((λ b h. grind (arith, nat_tests, h)), (λ rest. rw other refl))

-- The effect of a field on a group in part `home`, where `n` parts have begun: it is ignored, is outside the group, is
-- its count, begins an instance, or continues one. Then `Then` holds of the status of the group, and of the number of
-- parts that have begun.
pub data Act (rows : List Row) (tag home : ℕ) (g : Group) (was : Status) (n : ℕ) (p : LocatedFields) (ps : List LocatedFields) (Then : Status → ℕ → Type 0) : Type 0 where
  skips : is_named g p.0.0 ≡ false → IfInside was (λ (r : ℕ). is_in r p.1 ≡ false) → IsQuiet rows tag home n p → Then was n → Act rows tag home g was n p ps Then
  leaves : (m : ℕ) → n ≤ m → is_own g p.0.0 ≡ false → IfInside was (λ (r : ℕ). part r (p ∷ ps) ≡ []) → IsQuiet rows tag home m p
      → Then Shut m → Act rows tag home g was n p ps Then
  counts : p.0.0 ≡ tag → p.1 ≡ InPart home → home ≤ n → Then Counted n → Act rows tag home g was n p ps Then
  starts : IsOpen was → p.0.0 ≡ first_tag tag rows → p.1 ≡ Begins (n + 1) home → IfInside was (λ (r : ℕ). part r (p ∷ ps) ≡ [])
      → Then (Inside (n + 1)) (n + 1) → Act rows tag home g was n p ps Then
  goes : (m : ℕ) → n ≤ m → is_named g p.0.0 ≡ true → has g.others.now p.0.0 ≡ true → IsInside was (λ (r : ℕ). stands_in tag (group_of p.0.0 rows) ≡ is_in r p.1)
      → IsQuiet rows tag home m p → Then was m → Act rows tag home g was n p ps Then

-- the effect of each of the fields, in order
abbrev pub IsRun : List Row → ℕ → ℕ → Group → List LocatedFields → Status → ℕ → Type 0
IsRun rows tag home g [] was n = Unit {0}
IsRun rows tag home g (p ∷ ps) was n = Act rows tag home g was n p ps (λ (now : Status) (m : ℕ). IsRun rows tag home g ps now m)

-- a located field has the effect of its step
pub acts : (header rows : List Row) (tag home : ℕ) (g : Group) (was : Status) (f : Entry) (fs : List Entry) (s : State) (d : Stepped) → step header rows s f.0 ≡ d
    → Act rows tag home g was s.begun (f, d.position) (located header rows d.state fs) (λ (now : Status) (m : ℕ). IsRun rows tag home g (located header rows d.state fs) now m)
    → IsRun rows tag home g (located header rows s (f ∷ fs)) was s.begun
acts header rows tag home g was f fs s d e act = rw e act

-- the group has this status, where it can be open
abbrev pub IsAt : ℕ → Option OpenGroup → Status → Type 0
IsAt tag slot Shut = (p : OpenGroup) → slot ≡ Some p → p.group ≡ tag → ⊥
IsAt tag slot Counted = (p : OpenGroup) × ((slot ≡ Some p) × ((p.group ≡ tag) × (p.instance ≡ None)))
IsAt tag slot (Inside r) = (p : OpenGroup) × ((slot ≡ Some p) × ((p.group ≡ tag) × (p.instance ≡ Some r)))

-- another group is open there
pub at_other : (tag : ℕ) (slot : Option OpenGroup) (p : OpenGroup) → slot ≡ Some p → (p.group ≡ tag → ⊥) → IsAt tag slot Shut
at_other tag slot p is_open other p' h same = other (ap (λ (p : OpenGroup). p.group) (same_some p p' (sym is_open ∙ h)) ∙ same)

-- the predicate holds where the group is in an instance
pub if_inside : (tag : ℕ) (slot : Option OpenGroup) (was : Status) (what : ℕ → Type 0) → IsAt tag slot was
    → ((p : OpenGroup) (r : ℕ) → slot ≡ Some p → p.group ≡ tag → p.instance ≡ Some r → what r) → IfInside was what
if_inside tag slot Shut what at h = tt
if_inside tag slot Counted what at h = tt
if_inside tag slot (Inside r) what at h = h at.0 r at.1.0 at.1.1.0 at.1.1.1

-- the group is open
pub is_open_at : (tag : ℕ) (slot : Option OpenGroup) (was : Status) (p : OpenGroup) → IsAt tag slot was → slot ≡ Some p → p.group ≡ tag → IsOpen was
is_open_at tag slot Shut p at is_open same = at p is_open same
is_open_at tag slot Counted p at is_open same = tt
is_open_at tag slot (Inside r) p at is_open same = tt

-- the group is in this instance
pub is_inside_at : (tag : ℕ) (slot : Option OpenGroup) (was : Status) (what : ℕ → Type 0) (p : OpenGroup) (q : ℕ) → IsAt tag slot was → slot ≡ Some p → p.group ≡ tag
    → p.instance ≡ Some q → what q → IsInside was what
is_inside_at tag slot Shut what p q at is_open same this h = absurd (at p is_open same)
is_inside_at tag slot Counted what p q at is_open same this h =
    absurd (none_some q (sym at.1.1.1 ∙ ap (λ (p : OpenGroup). p.instance) (same_some at.0 p (sym at.1.0 ∙ is_open)) ∙ this))
is_inside_at tag slot (Inside r) what p q at is_open same this h =
    let e : r ≡ q = same_some r q (sym at.1.1.1 ∙ ap (λ (p : OpenGroup). p.instance) (same_some at.0 p (sym at.1.0 ∙ is_open)) ∙ this) in
    subst what (sym e) h
