-- The fields outside of groups.
use Rattle.std.proofs.Common.{◌≡◌, ℕ, ◌+◌, false, List, [], ◌∷◌, filter, refl, sym, ap, ◌∙◌, arith, ◌==◌, Option, Some, None}
use Rattle.std.proofs.lemmas.Bool.Decides.{nat_tests}
use Rattle.fix_fields.specs.Fields.{Entry}
use Rattle.fix_validation.specs.declared.table.Row.{Row}
use Rattle.fix_validation.specs.declared.positions.FieldPosition.TheVariants.{InPart}
use Rattle.fix_validation.specs.declared.positions.State.{State}
use Rattle.fix_validation.specs.declared.positions.Stepped.{Stepped}
use Rattle.fix_validation.specs.Positions.{group_of, step, located, is_in, part}
use Rattle.fix_validation.specs.Tables.{header_rows}
use Rattle.fix_group_laws.specs.Tied.{stands_alone}
use Rattle.fix_group_laws.proofs.Views.{view, aside, headed, closes, begins_outer, goes_outer, begins_inner, goes_inner, strays}
use Rattle.fix_group_laws.proofs.Chains.{both_or_none}
use Rattle.fix_group_laws.proofs.States.{NoStrays, none_some, IsSound, sound_closed, sound_begun, sound_on, sound_within, sound_inner, unlike_numbers}

module _ (rows : List Row) (none : group_of 0 rows ≡ None) where
  -- no tag belongs to a group if it is in no group
  some_group : (h x : ℕ) → group_of h rows ≡ Some x → (h == 0) ≡ false
  some_group h x its = unlike_numbers h 0 (λ zero. none_some x (sym none ∙ ap (λ (t : ℕ). group_of t rows) (sym zero) ∙ its))

  kept_on : (f : Entry) (fs : List Entry) (s : State) (d : Stepped) → step header_rows rows s f.0 ≡ d → is_in 0 d.position ≡ stands_alone rows f.0
      → part 0 (located header_rows rows d.state fs) ≡ filter (λ (f : Entry). stands_alone rows f.0) fs
      → part 0 (located header_rows rows s (f ∷ fs)) ≡ filter (λ (f : Entry). stands_alone rows f.0) (f ∷ fs)
  kept_on f fs s d e same rest = rw e (both_or_none _ _ f _ _ same rest)

  pub alone : (fs : List Entry) (s : State) → IsSound rows s → NoStrays (located header_rows rows s fs)
      → part 0 (located header_rows rows s fs) ≡ filter (λ (f : Entry). stands_alone rows f.0) fs
  alone [] s sound clear = refl
  alone (f ∷ fs) s sound clear = by_header (λ x held rest. alone fs x held rest) (group_of f.0 header_rows) refl
    where
      by_header : ((x : State) → IsSound rows x → NoStrays (located header_rows rows x fs) → part 0 (located header_rows rows x fs) ≡ filter (λ (f : Entry). stands_alone rows f.0) fs)
          → (w : Option ℕ) → group_of f.0 header_rows ≡ w → part 0 (located header_rows rows s (f ∷ fs)) ≡ filter (λ (f : Entry). stands_alone rows f.0) (f ∷ fs)
      by_header on (Some x) h =
          let e : step header_rows rows s f.0 ≡ record { position = InPart 0; state = s } = rw h refl in
          kept_on f fs s _ e (rw h refl) (on s sound (rw e at clear.1))
      by_header on None h =
          elim (view header_rows rows s f.0) [
            | aside its e ↦ kept_on f fs s _ e (rw (h, its) refl) (on s sound (rw e at clear.1))
            | headed x its e ↦ absurd (none_some x (sym h ∙ its))
            | closes its e ↦ kept_on f fs s _ e (rw (h, its) refl) (on _ (sound_closed rows s sound f.0 its) (rw e at clear.1))
            | begins_outer p is_open its first e ↦
                let other = some_group p.group 0 (sound.outer p is_open).0 in
                let out : (s.begun + 1 == 0) ≡ false = grind (arith, nat_tests) in
                kept_on f fs s _ e (rw (h, its, other, out) refl) (on _ (sound_begun rows s sound f.0 p is_open its) (rw e at clear.1))
            | goes_outer p q is_open this its later e ↦
                let other = some_group p.group 0 (sound.outer p is_open).0 in
                let old = (sound.outer_old p q is_open this).0 in
                let out : (q == 0) ≡ false = grind (arith, nat_tests, old) in
                kept_on f fs s _ e (rw (h, its, other, out) refl) (on _ (sound_on rows s sound f.0 p q is_open this its) (rw e at clear.1))
            | begins_inner o is_open its first e ↦
                let around = sound.inner o is_open in
                let other = some_group o.group around.0.group around.1.1.0 in
                let out : (s.begun + 1 == 0) ≡ false = grind (arith, nat_tests) in
                kept_on f fs s _ e (rw (h, its, other, out) refl) (on _ (sound_within rows s sound f.0 o is_open) (rw e at clear.1))
            | goes_inner o r is_open this its later e ↦
                let around = sound.inner o is_open in
                let other = some_group o.group around.0.group around.1.1.0 in
                let old = (sound.inner_old o r is_open this).0 in
                let out : (r == 0) ≡ false = grind (arith, nat_tests, old) in
                kept_on f fs s _ e (rw (h, its, other, out) refl) (on _ (sound_inner rows s sound f.0 o is_open) (rw e at clear.1))
            | strays n x e ↦ absurd (rw e at clear.0)
          ]
