-- The effect of fields on a group outside of groups.
use Rattle.std.proofs.Common.{◌≡◌, ℕ, ◌+◌, true, false, List, [], ◌∷◌, refl, sym, ap, subst, ◌∙◌, arith, ◌==◌, Option, Some, inl, inr}
use Rattle.std.proofs.lemmas.Bool.Decides.{nat_tests}
use Rattle.std.proofs.lemmas.Bool.{cases_eq}
use Rattle.fix_fields.specs.Fields.{Entry}
use Rattle.fix_fields.specs.Groups.{is_own}
use Rattle.fix_fields.specs.declared.group.Group.{Group}
use Rattle.fix_validation.specs.declared.table.Row.{Row}
use Rattle.fix_validation.specs.declared.positions.FieldPosition.TheVariants.{Begins}
use Rattle.fix_validation.specs.declared.positions.OpenGroup.{OpenGroup}
use Rattle.fix_validation.specs.declared.positions.State.{State}
use Rattle.fix_validation.specs.Positions.{group_of, first_tag, is_count, located}
use Rattle.fix_group_laws.proofs.Views.{view, begun_at, aside, headed, closes, begins_outer, goes_outer, begins_inner, goes_inner, strays}
use Rattle.fix_group_laws.proofs.States.{NoStrays, same_some, opening, opened_is, unlike_numbers, IsSound, sound_closed, sound_begun, sound_on, sound_within, sound_inner, left_closed, left_begun, left}
use Rattle.fix_group_laws.proofs.Tags.{IsTable, not_zero, unnamed, other_group, other_inner, no_group, foreign, no_first, inside, deeper}
use Rattle.fix_group_laws.proofs.Runs.{Status, Shut, Counted, Inside, skips, leaves, counts, starts, goes, IsRun, quiet_within, quiet_begins, acts, IsAt, at_other, if_inside, is_open_at, is_inside_at}

module _ (header rows : List Row) (tag : ℕ) (g : Group) (table : IsTable header rows tag 0 g) where
  -- a tag in a group is not this group's count
  no_count : (t h k : ℕ) → group_of t rows ≡ Some h → group_of h rows ≡ Some k → t ≡ tag → ⊥
  no_count t h k its around same =
      not_zero rows table.none h k around (same_some 0 h (sym table.count ∙ ap (λ (t : ℕ). group_of t rows) (sym same) ∙ its))

  -- a tag in another group outside of groups, or in a group within that one
  sibling : (t h : ℕ) → group_of t rows ≡ Some h → group_of h rows ≡ Some 0 → (h ≡ tag → ⊥) → is_own g t ≡ false
  sibling t h its around unlike = foreign header rows tag 0 g table t h (no_count t h 0 its around) its (other_group header rows tag 0 g table h around unlike)

  beneath : (t h k : ℕ) → group_of t rows ≡ Some h → group_of h rows ≡ Some k → (h ≡ tag → ⊥) → (k ≡ tag → ⊥) → is_own g t ≡ false
  beneath t h k its around unlike outer = foreign header rows tag 0 g table t h (no_count t h k its around) its (other_inner header rows tag 0 g table h k around unlike outer)

  -- the effect of each of the fields, by the open groups
  pub outer_run : (fs : List Entry) (s : State) (was : Status) → IsSound rows s → IsAt tag s.outer was → NoStrays (located header rows s fs)
      → IsRun rows tag 0 g (located header rows s fs) was s.begun
  outer_run [] s was sound at clear = tt
  outer_run (f ∷ fs) s was sound at clear =
      elim (view header rows s f.0) [
        | aside its e ↦ acts header rows tag 0 g was f fs s _ e
            (skips (unnamed header rows tag 0 g table f.0 its) (if_inside tag s.outer was _ at (λ p r a b c. refl)) ((λ b h. refl), (λ rest. refl))
            (outer_run fs s was sound at (rw e at clear.1)))
        | headed x its e ↦ acts header rows tag 0 g was f fs s _ e
            (skips (unnamed header rows tag 0 g table f.0 (table.apart f.0 x its))
            (if_inside tag s.outer was _ at (λ p r a b c. let old = (sound.outer_old p r a c).0 in grind (arith, nat_tests, old)))
            (quiet_within rows tag 0 s.begun 0 f (grind (arith)))
            (outer_run fs s was sound at (rw e at clear.1)))
        | closes its e ↦
            let on = rw e at clear.1 in
            let next = sound_closed rows s sound f.0 its in
            elim (cases_eq f.0 tag) [
              | inl same ↦
                  let is_count : is_count f.0 rows ≡ true = ap (λ (t : ℕ). is_count t rows) same ∙ table.counts in
                  acts header rows tag 0 g was f fs s _ e
                  (counts same refl (grind (arith)) (outer_run fs _ Counted next (opening f.0 0, (rw is_count refl, (same, refl))) on))
              | inr other ↦
                  let far = foreign header rows tag 0 g table f.0 0 other its (no_group header rows tag 0 g table) in
                  acts header rows tag 0 g was f fs s _ e
                  (leaves s.begun (grind (arith)) far
                  (if_inside tag s.outer was _ at (λ p r a b c. let old = sound.outer_old p r a c in
                  let none : (0 == r) ≡ false = grind (arith, nat_tests, old.0) in
                  rw none (left header rows r fs _ (left_closed rows s f.0 r old.0 old.1) on)))
                  (quiet_within rows tag 0 s.begun 0 f (grind (arith)))
                  (outer_run fs _ Shut next (λ p h same. other (sym (ap (λ (p : OpenGroup). p.group) (opened_is rows f.0 0 p h)) ∙ same)) on))
            ]
        | begins_outer p is_open its first e ↦
            let on = rw e at clear.1 in
            let next = sound_begun rows s sound f.0 p is_open its in
            let outside = sound.outer p is_open in
            elim (cases_eq p.group tag) [
              | inl same ↦
                  acts header rows tag 0 g was f fs s _ e
                  (starts (is_open_at tag s.outer was p at is_open same) (first ∙ ap (λ (n : ℕ). first_tag n rows) same) (ap (λ (n : ℕ). Begins (s.begun + 1) n) outside.1)
                  (if_inside tag s.outer was _ at (λ p' r a b c. let old = sound.outer_old p' r a c in
                  let newer : (s.begun + 1 == r) ≡ false = grind (arith, nat_tests, old.1) in
                  rw newer (left header rows r fs _ (left_begun rows s f.0 r old.0 old.1 p) on)))
                  (outer_run fs _ (Inside (s.begun + 1)) next (begun_at (s.begun + 1) p, (refl, (same, refl))) on))
              | inr other ↦
                  let far = sibling f.0 p.group its outside.0 other in
                  acts header rows tag 0 g was f fs s _ e
                  (leaves (s.begun + 1) (grind (arith)) far
                  (if_inside tag s.outer was _ at (λ p' r a b c. absurd (at_other tag s.outer p is_open other p' a b)))
                  (quiet_begins rows tag 0 (s.begun + 1) p.around f (no_first header rows tag 0 g table f.0 p.group its other))
                  (outer_run fs _ Shut next (at_other tag _ (begun_at (s.begun + 1) p) refl other) on))
            ]
        | goes_outer p q is_open this its later e ↦
            let on = rw e at clear.1 in
            let next = sound_on rows s sound f.0 p q is_open this its in
            let outside = sound.outer p is_open in
            let quiet = quiet_within rows tag 0 s.begun q f (sound.outer_old p q is_open this).1 in
            elim (cases_eq p.group tag) [
              | inl same ↦
                  let facts = inside header rows tag 0 g table f.0 (its ∙ ap (λ (n : ℕ). Some n) same) (rw same at later) in
                  let self : (q == q) ≡ true = grind (arith, nat_tests) in
                  acts header rows tag 0 g was f fs s _ e
                  (goes s.begun (grind (arith)) facts.0 facts.1.0 (is_inside_at tag s.outer was _ p q at is_open same this (facts.1.1 ∙ sym self)) quiet
                  (outer_run fs _ was next (subst (λ (o : Option OpenGroup). IsAt tag o was) is_open at) on))
              | inr other ↦
                  let far = sibling f.0 p.group its outside.0 other in
                  acts header rows tag 0 g was f fs s _ e
                  (leaves s.begun (grind (arith)) far
                  (if_inside tag s.outer was _ at (λ p' r a b c. absurd (at_other tag s.outer p is_open other p' a b))) quiet
                  (outer_run fs _ Shut next (at_other tag _ p refl other) on))
            ]
        | begins_inner o is_open its first e ↦
            let on = rw e at clear.1 in
            let next = sound_within rows s sound f.0 o is_open in
            let around = sound.inner o is_open in
            let unlike = no_count o.group around.0.group 0 around.1.1.0 (sound.outer around.0 around.1.0).0 in
            let quiet = quiet_begins rows tag 0 (s.begun + 1) o.around f (no_first header rows tag 0 g table f.0 o.group its unlike) in
            elim (cases_eq around.0.group tag) [
              | inl same ↦
                  let facts = deeper header rows tag 0 g table f.0 o.group its (around.1.1.0 ∙ ap (λ (n : ℕ). Some n) same) unlike in
                  let old = sound.outer_old around.0 o.around around.1.0 around.1.1.1 in
                  let newer : (s.begun + 1 == o.around) ≡ false = grind (arith, nat_tests, old.1) in
                  acts header rows tag 0 g was f fs s _ e
                  (goes (s.begun + 1) (grind (arith)) facts.0 facts.1.0 (is_inside_at tag s.outer was _ around.0 o.around at around.1.0 same around.1.1.1 (facts.1.1 ∙ sym newer)) quiet
                  (outer_run fs _ was next at on))
              | inr other ↦
                  let far = beneath f.0 o.group around.0.group its around.1.1.0 unlike other in
                  acts header rows tag 0 g was f fs s _ e
                  (leaves (s.begun + 1) (grind (arith)) far
                  (if_inside tag s.outer was _ at (λ p' r a b c. absurd (at_other tag s.outer around.0 around.1.0 other p' a b))) quiet
                  (outer_run fs _ Shut next (at_other tag s.outer around.0 around.1.0 other) on))
            ]
        | goes_inner o q is_open this its later e ↦
            let on = rw e at clear.1 in
            let next = sound_inner rows s sound f.0 o is_open in
            let around = sound.inner o is_open in
            let unlike = no_count o.group around.0.group 0 around.1.1.0 (sound.outer around.0 around.1.0).0 in
            let quiet = quiet_within rows tag 0 s.begun q f (sound.inner_old o q is_open this).1 in
            elim (cases_eq around.0.group tag) [
              | inl same ↦
                  let facts = deeper header rows tag 0 g table f.0 o.group its (around.1.1.0 ∙ ap (λ (n : ℕ). Some n) same) unlike in
                  let out = unlike_numbers q o.around (λ is. sound.unlike around.0 o o.around around.1.0 is_open around.1.1.1 (this ∙ ap (λ (n : ℕ). Some n) is)) in
                  acts header rows tag 0 g was f fs s _ e
                  (goes s.begun (grind (arith)) facts.0 facts.1.0 (is_inside_at tag s.outer was _ around.0 o.around at around.1.0 same around.1.1.1 (facts.1.1 ∙ sym out)) quiet
                  (outer_run fs _ was next at on))
              | inr other ↦
                  let far = beneath f.0 o.group around.0.group its around.1.1.0 unlike other in
                  acts header rows tag 0 g was f fs s _ e
                  (leaves s.begun (grind (arith)) far
                  (if_inside tag s.outer was _ at (λ p' r a b c. absurd (at_other tag s.outer around.0 around.1.0 other p' a b))) quiet
                  (outer_run fs _ Shut next (at_other tag s.outer around.0 around.1.0 other) on))
            ]
        | strays q x e ↦ absurd (rw e at clear.0)
      ]
