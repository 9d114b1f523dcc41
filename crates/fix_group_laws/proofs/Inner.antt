-- The effect of fields on a group within another one, of which there is one instance.
use Rattle.std.proofs.Common.{◌≡◌, ℕ, ◌+◌, true, false, Bool, List, [], ◌∷◌, refl, sym, ap, subst, ◌∙◌, arith, cond, ◌==◌, ◌&&◌, Option, Some, inl, inr}
use Rattle.std.specs.List.{AllByRecursion}
use Rattle.std.proofs.lemmas.Bool.Decides.{nat_tests}
use Rattle.std.proofs.lemmas.Bool.{cases_eq}
use Rattle.fix_fields.specs.Fields.{Entry}
use Rattle.fix_fields.specs.declared.group.Group.{Group}
use Rattle.fix_validation.specs.declared.table.Row.{Row}
use Rattle.fix_validation.specs.declared.positions.FieldPosition.{FieldPosition}
use Rattle.fix_validation.specs.declared.positions.FieldPosition.TheVariants.{Unknown, InPart, Begins, Misplaced}
use Rattle.fix_validation.specs.declared.positions.OpenGroup.{OpenGroup}
use Rattle.fix_validation.specs.declared.positions.State.{State}
use Rattle.fix_validation.specs.declared.positions.Stepped.{Stepped}
use Rattle.fix_validation.specs.Positions.{LocatedFields, group_of, first_tag, is_count, step, located, begins, with_begin}
use Rattle.fix_group_laws.proofs.Views.{view, begun_at, aside, headed, closes, begins_outer, goes_outer, begins_inner, goes_inner, strays}
use Rattle.fix_group_laws.proofs.States.{NoStrays, none_some, same_some, opening, opened_is, unlike_numbers, IsSound, sound_closed, sound_begun, sound_on, sound_within, sound_inner, left_closed, left_begun, left_on, left_within, left}
use Rattle.fix_group_laws.proofs.Tags.{IsTable, not_zero, unnamed, other_group, other_inner, no_group, foreign, no_first, inside}
use Rattle.fix_group_laws.proofs.Runs.{Status, Shut, Counted, Inside, skips, leaves, counts, starts, goes, IsRun, quiet_within, quiet_begins, acts, IsAt, at_other, if_inside, is_open_at, is_inside_at}

-- instances that are all the same one
abbrev pub AreAll : ℕ → List ℕ → Type 0
AreAll q bs = AllByRecursion (λ (b : ℕ). b ≡ q) bs

-- those after a field
all_behind : (first q t : ℕ) (x : FieldPosition) (bs : List ℕ) → AreAll q (with_begin first 0 t x bs) → AreAll q bs
all_behind first q t Unknown bs h = h
all_behind first q t (InPart n) bs h = h
all_behind first q t (Misplaced n) bs h = h
all_behind first q t (Begins n around) bs h = by_test ((t == first) && (around == 0)) h
  where
    by_test : (b : Bool) → AreAll q (cond b (n ∷ bs) bs) → AreAll q bs
    by_test true h = h.1
    by_test false h = h

-- the one that a field begins
pub all_begun : (first q t n around : ℕ) (bs : List ℕ) → t ≡ first → around ≡ 0 → AreAll q (with_begin first 0 t (Begins n around) bs) → n ≡ q
all_begun first q t n around bs same zero h =
    let test : (t == first) ≡ true = grind (arith, nat_tests, same) in
    let outside : (around == 0) ≡ true = grind (arith, nat_tests, zero) in
    let its : AreAll q (n ∷ bs) = rw (test, outside) at h in
    its.0

-- the group around this one is outside of groups, and its first tag is not this one's count
module _ (header rows : List Row) (tag around q : ℕ) (g : Group) (table : IsTable header rows tag around g) (outside : group_of around rows ≡ Some 0)
    (led : first_tag around rows ≡ tag → ⊥) where
  -- the group around this one is in no instance but the one in part q
  abbrev pub IsSole : State → Type 0
  IsSole s = (p : OpenGroup) (n : ℕ) → s.outer ≡ Some p → p.group ≡ around → p.instance ≡ Some n → n ≡ q

  -- it begins no other instance
  abbrev pub AreSole : List LocatedFields → Type 0
  AreSole ps = AreAll q (begins (first_tag around rows) 0 ps)

  -- nor after a field
  pub sole_behind : (f : Entry) (fs : List Entry) (s : State) (d : Stepped) → step header rows s f.0 ≡ d → AreSole (located header rows s (f ∷ fs))
      → AreSole (located header rows d.state fs)
  sole_behind f fs s d e all = all_behind (first_tag around rows) q f.0 d.position (begins (first_tag around rows) 0 (located header rows d.state fs)) (rw e at all)

  -- a tag outside of groups is not this group's count
  pub not_outside : (t : ℕ) → group_of t rows ≡ Some 0 → t ≡ tag → ⊥
  not_outside t its same = not_zero rows table.none around 0 outside (same_some 0 around (sym its ∙ ap (λ (t : ℕ). group_of t rows) same ∙ table.count))

  -- the count is in the group around this one
  pub its_around : (t h : ℕ) → group_of t rows ≡ Some h → t ≡ tag → h ≡ around
  its_around t h its same = same_some h around (sym its ∙ ap (λ (t : ℕ). group_of t rows) same ∙ table.count)

  -- a tag in a group within another one is not the count
  pub not_within : (t h k : ℕ) → group_of t rows ≡ Some h → group_of h rows ≡ Some k → group_of k rows ≡ Some 0 → t ≡ tag → ⊥
  not_within t h k its within none same =
      let e = its_around t h its same in
      not_zero rows table.none k 0 none (sym (same_some k 0 (sym within ∙ ap (λ (t : ℕ). group_of t rows) e ∙ outside)))

  -- the effect of each of the fields, by the open groups
  pub inner_run : (fs : List Entry) (s : State) (was : Status) → IsSound rows s → IsSole s → IsAt tag s.inner was → AreSole (located header rows s fs)
      → NoStrays (located header rows s fs) → IsRun rows tag q g (located header rows s fs) was s.begun
  inner_run [] s was sound sole at all clear = tt
  inner_run (f ∷ fs) s was sound sole at all clear =
      elim (view header rows s f.0) [
        | aside its e ↦ acts header rows tag q g was f fs s _ e
            (skips (unnamed header rows tag around g table f.0 its) (if_inside tag s.inner was _ at (λ o r a b c. refl)) ((λ b h. refl), (λ rest. refl))
            (inner_run fs s was sound sole at (sole_behind f fs s _ e all) (rw e at clear.1)))
        | headed x its e ↦ acts header rows tag q g was f fs s _ e
            (skips (unnamed header rows tag around g table f.0 (table.apart f.0 x its))
            (if_inside tag s.inner was _ at (λ o r a b c. let old = (sound.inner_old o r a c).0 in grind (arith, nat_tests, old)))
            (quiet_within rows tag q s.begun 0 f (grind (arith)))
            (inner_run fs s was sound sole at (sole_behind f fs s _ e all) (rw e at clear.1)))
        | closes its e ↦
            let on = rw e at clear.1 in
            let far = foreign header rows tag around g table f.0 0 (not_outside f.0 its) its (no_group header rows tag around g table) in
            acts header rows tag q g was f fs s _ e
            (leaves s.begun (grind (arith)) far
            (if_inside tag s.inner was _ at (λ o r a b c. let old = sound.inner_old o r a c in
            let none : (0 == r) ≡ false = grind (arith, nat_tests, old.0) in
            rw none (left header rows r fs _ (left_closed rows s f.0 r old.0 old.1) on)))
            (quiet_within rows tag q s.begun 0 f (grind (arith)))
            (inner_run fs _ Shut (sound_closed rows s sound f.0 its)
            (λ p n h same this. absurd (none_some n (sym (ap (λ (p : OpenGroup). p.instance) (opened_is rows f.0 0 p h)) ∙ this)))
            (λ o h same. none_some o h) (sole_behind f fs s _ e all) on))
        | begins_outer p is_open its first e ↦
            let on = rw e at clear.1 in
            let of = sound.outer p is_open in
            let unlike = not_outside p.group of.0 in
            let not_its : f.0 ≡ tag → ⊥ = λ same. led (ap (λ (n : ℕ). first_tag n rows) (sym (its_around f.0 p.group its same)) ∙ sym first ∙ same) in
            let far = foreign header rows tag around g table f.0 p.group not_its its (other_group header rows tag around g table p.group of.0 unlike) in
            acts header rows tag q g was f fs s _ e
            (leaves (s.begun + 1) (grind (arith)) far
            (if_inside tag s.inner was _ at (λ o r a b c. let old = sound.inner_old o r a c in
            let newer : (s.begun + 1 == r) ≡ false = grind (arith, nat_tests, old.1) in
            rw newer (left header rows r fs _ (left_begun rows s f.0 r old.0 old.1 p) on)))
            (quiet_begins rows tag q (s.begun + 1) p.around f (no_first header rows tag around g table f.0 p.group its unlike))
            (inner_run fs _ Shut (sound_begun rows s sound f.0 p is_open its)
            (λ p' n h same this. let is = same_some (begun_at (s.begun + 1) p) p' h in
            sym (same_some (s.begun + 1) n (ap (λ (p : OpenGroup). p.instance) is ∙ this))
            ∙ all_begun (first_tag around rows) q f.0 (s.begun + 1) p.around _ (first ∙ ap (λ (n : ℕ). first_tag n rows) (ap (λ (p : OpenGroup). p.group) is ∙ same)) of.1 (rw e at all))
            (λ o h same. not_its (sym (ap (λ (p : OpenGroup). p.group) (opened_is rows f.0 (s.begun + 1) o h)) ∙ same))
            (sole_behind f fs s _ e all) on))
        | goes_outer p n is_open this its later e ↦
            let on = rw e at clear.1 in
            let of = sound.outer p is_open in
            let next = sound_on rows s sound f.0 p n is_open this its in
            let old = (sound.outer_old p n is_open this).1 in
            elim (cases_eq f.0 tag) [
              | inl same ↦
                  let here : n ≡ q = sole p n is_open (its_around f.0 p.group its same) this in
                  let is_count : is_count f.0 rows ≡ true = ap (λ (t : ℕ). is_count t rows) same ∙ table.counts in
                  acts header rows tag q g was f fs s _ e
                  (counts same (ap (λ (n : ℕ). InPart n) here) (grind (arith, here, old))
                  (inner_run fs _ Counted next (λ p' n h. sole p' n (is_open ∙ h)) (opening f.0 n, (rw is_count refl, (same, refl)))
                  (sole_behind f fs s _ e all) on))
              | inr other ↦
                  let unlike = not_outside p.group of.0 in
                  let far = foreign header rows tag around g table f.0 p.group other its (other_group header rows tag around g table p.group of.0 unlike) in
                  acts header rows tag q g was f fs s _ e
                  (leaves s.begun (grind (arith)) far
                  (if_inside tag s.inner was _ at (λ o r a b c. let begun = sound.inner_old o r a c in
                  let out = unlike_numbers n r (λ same. sound.unlike p o r is_open a (this ∙ ap (λ (n : ℕ). Some n) same) c) in
                  rw out (left header rows r fs _ (left_on rows s f.0 r begun.0 begun.1 p n (λ h. sound.unlike p o r is_open a h c)) on)))
                  (quiet_within rows tag q s.begun n f old)
                  (inner_run fs _ Shut next (λ p' n h. sole p' n (is_open ∙ h))
                  (λ o h same. other (sym (ap (λ (p : OpenGroup). p.group) (opened_is rows f.0 n o h)) ∙ same))
                  (sole_behind f fs s _ e all) on))
            ]
        | begins_inner o is_open its first e ↦
            let on = rw e at clear.1 in
            let next = sound_within rows s sound f.0 o is_open in
            let of = sound.inner o is_open in
            let all_on = sole_behind f fs s _ e all in
            elim (cases_eq o.group tag) [
              | inl same ↦
                  let here : o.around ≡ q = sole of.0 o.around of.1.0 (its_around o.group of.0.group of.1.1.0 same) of.1.1.1 in
                  acts header rows tag q g was f fs s _ e
                  (starts (is_open_at tag s.inner was o at is_open same) (first ∙ ap (λ (n : ℕ). first_tag n rows) same) (ap (λ (n : ℕ). Begins (s.begun + 1) n) here)
                  (if_inside tag s.inner was _ at (λ o' r a b c. let old = sound.inner_old o' r a c in
                  let newer : (s.begun + 1 == r) ≡ false = grind (arith, nat_tests, old.1) in
                  rw newer (left header rows r fs _ (left_within rows s f.0 r old.0 old.1 o (λ p h k. sound.unlike p o' r h a k c)) on)))
                  (inner_run fs _ (Inside (s.begun + 1)) next sole (begun_at (s.begun + 1) o, (refl, (same, refl))) all_on on))
              | inr other ↦
                  let none = (sound.outer of.0 of.1.0).0 in
                  let far = foreign header rows tag around g table f.0 o.group (not_within f.0 o.group of.0.group its of.1.1.0 none) its
                  (other_inner header rows tag around g table o.group of.0.group of.1.1.0 other (not_outside of.0.group none)) in
                  acts header rows tag q g was f fs s _ e
                  (leaves (s.begun + 1) (grind (arith)) far
                  (if_inside tag s.inner was _ at (λ o' r a b c. absurd (at_other tag s.inner o is_open other o' a b)))
                  (quiet_begins rows tag q (s.begun + 1) o.around f (no_first header rows tag around g table f.0 o.group its other))
                  (inner_run fs _ Shut next sole (at_other tag _ (begun_at (s.begun + 1) o) refl other) all_on on))
            ]
        | goes_inner o r is_open this its later e ↦
            let on = rw e at clear.1 in
            let next = sound_inner rows s sound f.0 o is_open in
            let of = sound.inner o is_open in
            let quiet = quiet_within rows tag q s.begun r f (sound.inner_old o r is_open this).1 in
            let all_on = sole_behind f fs s _ e all in
            elim (cases_eq o.group tag) [
              | inl same ↦
                  let facts = inside header rows tag around g table f.0 (its ∙ ap (λ (n : ℕ). Some n) same) (rw same at later) in
                  let self : (r == r) ≡ true = grind (arith, nat_tests) in
                  acts header rows tag q g was f fs s _ e
                  (goes s.begun (grind (arith)) facts.0 facts.1.0 (is_inside_at tag s.inner was _ o r at is_open same this (facts.1.1 ∙ sym self)) quiet
                  (inner_run fs _ was next sole (subst (λ (o : Option OpenGroup). IsAt tag o was) is_open at) all_on on))
              | inr other ↦
                  let none = (sound.outer of.0 of.1.0).0 in
                  let far = foreign header rows tag around g table f.0 o.group (not_within f.0 o.group of.0.group its of.1.1.0 none) its
                  (other_inner header rows tag around g table o.group of.0.group of.1.1.0 other (not_outside of.0.group none)) in
                  acts header rows tag q g was f fs s _ e
                  (leaves s.begun (grind (arith)) far
                  (if_inside tag s.inner was _ at (λ o' r a b c. absurd (at_other tag s.inner o is_open other o' a b))) quiet
                  (inner_run fs _ Shut next sole (at_other tag _ o refl other) all_on on))
            ]
        | strays n x e ↦ absurd (rw e at clear.0)
      ]
