-- The members after a group's count, where the fields are that group: they are in its instances, and none is a stray.
use Rattle.std.proofs.Common.{◌≡◌, ℕ, ◌+◌, true, false, List, [], ◌∷◌, ◌++◌, append_assoc, length, refl, sym, ap, subst, ◌∙◌, arith, rules, ◌==◌, Some, inl, inr, ◌⊎◌}
use Rattle.std.specs.List.{AllByRecursion}
use Rattle.std.proofs.lemmas.Bool.Decides.{nat_tests}
use Rattle.std.proofs.lemmas.Bool.{cases_Bool}
use Rattle.fix_fields.specs.Fields.{Entry}
use Rattle.fix_fields.specs.Groups.{has, is_member, is_named, kept, HasNo, IsInstance, chained}
use Rattle.fix_fields.specs.declared.group.Group.{Group}
use Rattle.fix_validation.specs.declared.table.Row.{Row}
use Rattle.fix_validation.specs.declared.positions.FieldPosition.{FieldPosition}
use Rattle.fix_validation.specs.declared.positions.FieldPosition.TheVariants.{Unknown, InPart, Begins, Misplaced}
use Rattle.fix_validation.specs.declared.positions.OpenGroup.{OpenGroup}
use Rattle.fix_validation.specs.declared.positions.State.{State}
use Rattle.fix_validation.specs.Positions.{LocatedFields, group_of, first_tag, step, located, begins, with_begin}
use Rattle.fix_group_laws.proofs.Views.{begun_at}
use Rattle.fix_group_laws.proofs.States.{IsNoStray, passes}
use Rattle.fix_group_laws.proofs.Tags.{IsTable, no_member_first, no_member_in, place_of, nowhere}
use Rattle.fix_group_laws.proofs.Chains.{not_own, not_member}

-- a field with another tag begins no instance
pub with_other : (first around t : ℕ) (x : FieldPosition) (bs : List ℕ) → (t == first) ≡ false → with_begin first around t x bs ≡ bs
with_other first around t Unknown bs other = refl
with_other first around t (InPart q) bs other = refl
with_other first around t (Begins q a) bs other = rw other refl
with_other first around t (Misplaced q) bs other = refl

pub same_head : (f e : Entry) (fs es : List Entry) → f ∷ fs ≡ e ∷ es → f ≡ e
same_head f e fs es h = search (h, rules)

pub same_tail : (f e : Entry) (fs es : List Entry) → f ∷ fs ≡ e ∷ es → fs ≡ es
same_tail f e fs es h = search (h, rules)

pub not_empty : (e : Entry) (es : List Entry) → [] ≡ e ∷ es → ⊥
not_empty e es h = search (h, rules)

-- with no fields there are no instances
no_instances : (g : Group) (pre : List Entry) (is : List (List Entry)) (rest : List Entry) → [] ≡ pre ++ (chained is ++ rest) → AllByRecursion (IsInstance g) is → 0 ≡ length is
no_instances g pre [] rest e each = refl
no_instances g pre ([] ∷ is) rest e each = absurd each.0
no_instances g [] ((f ∷ fs) ∷ is) rest e each = absurd (not_empty _ _ e)
no_instances g (x ∷ pre) ((f ∷ fs) ∷ is) rest e each = absurd (not_empty _ _ e)

module _ (header rows : List Row) (tag around home : ℕ) (g : Group) (table : IsTable header rows tag around g) where
  abbrev first : ℕ
  first = first_tag tag rows

  -- no member is a stray, and this many instances begin in the part
  abbrev pub IsPlace : LocatedFields → Type 0
  IsPlace p = group_of p.0.0 rows ≡ Some tag → IsNoStray p.1

  abbrev pub ArePlaced : ℕ → List LocatedFields → Type 0
  ArePlaced n ps = AllByRecursion IsPlace ps × (length (begins first home ps) ≡ n)

  sibling : (n : ℕ) (p : LocatedFields) (ps : List LocatedFields) → (p.0.0 == first) ≡ false → IsPlace p → ArePlaced n ps → ArePlaced n (p ∷ ps)
  sibling n p ps later clear right = ((clear, right.0), ap length (with_other first home p.0.0 p.1 (begins first home ps) later) ∙ right.1)

  -- a field that is not a member
  foreign : (n : ℕ) (f : Entry) (fs : List Entry) (s : State) → is_member g f.0 ≡ false → ArePlaced n (located header rows (step header rows s f.0).state fs)
      → ArePlaced n (located header rows s (f ∷ fs))
  foreign n f fs s out right =
      sibling n (f, (step header rows s f.0).position) (located header rows (step header rows s f.0).state fs) (no_member_first header rows tag around g table f.0 out)
      (λ its. absurd (no_member_in header rows tag around g table f.0 out its)) right

  behind : (fs : List Entry) (s : State) → HasNo (is_member g) (kept g fs) → ArePlaced 0 (located header rows s fs)
  behind [] s out = (tt, refl)
  behind (f ∷ fs) s out =
      elim (cases_Bool (is_named g f.0)) [
        | inl named ↦
            let each : HasNo (is_member g) (f ∷ kept g fs) = rw named at out in
            foreign 0 f fs s each.0 (behind fs _ each.1)
        | inr unnamed ↦
            let on : HasNo (is_member g) (kept g fs) = rw unnamed at out in
            foreign 0 f fs s (not_member g f.0 (not_own g f.0 unnamed)) (behind fs _ on)
      ]

  -- the field that begins the next instance
  begun : (m : ℕ) (f : Entry) (x : FieldPosition) (ps : List LocatedFields) (i : List Entry) (is : List (List Entry)) → f.0 ≡ first → x ≡ Begins m home
      → ArePlaced (length is) ps → ArePlaced (length (i ∷ is)) ((f, x) ∷ ps)
  begun m f x ps i is same at right =
      let test : (f.0 == first) ≡ true = grind (arith, nat_tests, same) in
      let self : (home == home) ≡ true = grind (arith, nat_tests) in
      rw at (((λ its. tt), right.0), rw (test, self) (rw right.1 refl))

  -- Where the group is open, it stays open after a member, which continues the instance that has begun, or begins one.
  pub record Stays (IsHeld : State → OpenGroup → Type 0) : Type 0 where
    pub there : (s : State) (o : OpenGroup) → IsHeld s o → o.around ≡ home
    pub starts : (s : State) (o : OpenGroup) → IsHeld s o → (t : ℕ) → t ≡ first
        → ((step header rows s t).position ≡ Begins (s.begun + 1) o.around) × IsHeld (step header rows s t).state (begun_at (s.begun + 1) o)
    pub goes : (s : State) (o : OpenGroup) (r : ℕ) → IsHeld s o → o.instance ≡ Some r → (t : ℕ) → has g.others.now t ≡ true
        → (group_of t rows ≡ Some tag → IsNoStray (step header rows s t).position) × IsHeld (step header rows s t).state o

  abbrev AreOthers : List Entry → Type 0
  AreOthers fs = AllByRecursion (λ (e : Entry). has g.others.now e.0 ≡ true) fs

  -- an instance has begun, or no field continues one
  abbrev HasBegun : OpenGroup → List Entry → Type 0
  HasBegun o pre = (pre ≡ []) ⊎ ((r : ℕ) × (o.instance ≡ Some r))

  module _ (IsHeld : State → OpenGroup → Type 0) (stays : Stays IsHeld) where
    -- such fields are in their places, by any state in which the group is open
    abbrev IsChained : List Entry → Type 0
    IsChained fs = (s : State) (o : OpenGroup) (pre : List Entry) (is : List (List Entry)) (rest : List Entry) → IsHeld s o → HasBegun o pre
        → kept g fs ≡ pre ++ (chained is ++ rest) → AreOthers pre → AllByRecursion (IsInstance g) is → HasNo (is_member g) rest → ArePlaced (length is) (located header rows s fs)

    -- a field that the table names, by its role in the group
    chain_named : (f : Entry) (fs : List Entry) → IsChained fs → (s : State) (o : OpenGroup) (pre : List Entry) (is : List (List Entry)) (rest : List Entry)
        → IsHeld s o → HasBegun o pre → f ∷ kept g fs ≡ pre ++ (chained is ++ rest) → AreOthers pre → AllByRecursion (IsInstance g) is → HasNo (is_member g) rest
        → ArePlaced (length is) (located header rows s (f ∷ fs))
    chain_named f fs on s o (x ∷ pre) is rest held (inl none_begun) parts others each out = absurd (not_empty x pre (sym none_begun))
    chain_named f fs on s o (x ∷ pre) is rest held (inr at) parts others each out =
        let other : has g.others.now f.0 ≡ true = rw (same_head f x _ _ parts) others.0 in
        let d = stays.goes s o at.0 held at.1 f.0 other in
        sibling (length is) (f, (step header rows s f.0).position) _ (place_of header rows tag around g table f.0 other).0 d.0
        (on _ o pre is rest d.1 (inr at) (same_tail f x _ _ parts) others.1 each out)
    chain_named f fs on s o [] [] rest held begun parts others each out =
        let left : HasNo (is_member g) (f ∷ kept g fs) = subst (HasNo (is_member g)) (sym parts) out in
        foreign 0 f fs s left.0 (behind fs _ left.1)
    chain_named f fs on s o [] ([] ∷ is) rest held begun parts others each out = absurd each.0
    chain_named f fs on s o [] ((x ∷ pre) ∷ is) rest held has_begun parts others each out =
        let same : f.0 ≡ first = ap (λ (e : Entry). e.0) (same_head f x _ _ parts) ∙ each.0.0 ∙ table.of.first in
        let d = stays.starts s o held f.0 same in
        begun (s.begun + 1) f _ _ (x ∷ pre) is same (d.0 ∙ ap (λ (n : ℕ). Begins (s.begun + 1) n) (stays.there s o held))
        (on _ (begun_at (s.begun + 1) o) pre is rest d.1 (inr (s.begun + 1, refl)) (same_tail f x _ _ parts ∙ append_assoc pre (chained is) rest) each.0.1 each.1 out)

    pub chain : (fs : List Entry) → IsChained fs
    chain [] s o pre is rest held begun parts others each out = (tt, no_instances g pre is rest parts each)
    chain (f ∷ fs) s o pre is rest held begun parts others each out =
        elim (cases_Bool (is_named g f.0)) [
          | inl named ↦
              let parts_on : f ∷ kept g fs ≡ pre ++ (chained is ++ rest) = rw named at parts in
              chain_named f fs (chain fs) s o pre is rest held begun parts_on others each out
          | inr unnamed ↦
              let parts_on : kept g fs ≡ pre ++ (chained is ++ rest) = rw unnamed at parts in
              let still : IsHeld (step header rows s f.0).state o = rw (passes header rows s f.0 (nowhere header rows tag around g table f.0 unnamed)) held in
              foreign (length is) f fs s (not_member g f.0 (not_own g f.0 unnamed)) (chain fs _ o pre is rest still begun parts_on others each out)
        ]
