-- The tag of a Twice fault is the tag of at least two fields of one part.
use Rattle.std.proofs.Common.{◌≡◌, ℕ, ◌+◌, ◌≤◌, true, false, Bool, List, [], ◌∷◌, ◌++◌, ◌∙◌, append_assoc, length, filter, sym, subst, ap, arith, cond, ◌==◌, Some, inl, inr}
use Rattle.std.proofs.lemmas.Bool.Decides.{nat_tests}
use Rattle.std.proofs.lemmas.Bool.{cases_Bool, true≢false}
use Rattle.fix_fields.specs.Fields.{Entry}
use Rattle.fix_dictionary.specs.Kinds.{is_grouped}
use Rattle.fix_validation.specs.declared.faults.DictFault.TheVariants.{Twice}
use Rattle.fix_validation.specs.declared.positions.FieldPosition.{FieldPosition}
use Rattle.fix_validation.specs.declared.positions.FieldPosition.TheVariants.{Unknown, InPart, Begins, Misplaced}
use Rattle.fix_validation.specs.Faults.{has_tag}
use Rattle.fix_validation.specs.GroupFaults.{repeats, twice}
use Rattle.fix_validation.specs.Positions.{LocatedFields, is_in, part}
use Rattle.fix_validation.specs.Tables.{header_rows}
use Rattle.fix_decoder.specs.Messages.{fault_in, type_in}
use Rattle.fix_group_laws.specs.Tied.{rows_in, placed_in}
use Rattle.fix_group_laws.proofs.States.{none_some, same_some}
use Rattle.fix_group_laws.proofs.Faults.{twice_stated}
use Rattle.fix_group_laws.proofs.Ties.{part_append}

module _ (tag : ℕ) where
  -- the number of fields with the tag
  abbrev many : List Entry → ℕ
  many fields = length (filter (λ (f : Entry). f.0 == tag) fields)

  many_more : (b : Bool) (f : Entry) (fs : List Entry) → length (cond b (f ∷ fs) fs) ≡ length (cond b (f ∷ []) []) + length fs
  many_more true f fs = omega arith
  many_more false f fs = omega arith

  many_append : (fs others : List Entry) → many (fs ++ others) ≡ many fs + many others
  many_append [] others = omega arith
  many_append (f ∷ fs) others =
      let more = many_more (f.0 == tag) f (filter (λ (f : Entry). f.0 == tag) fs) in
      let more_both = many_more (f.0 == tag) f (filter (λ (f : Entry). f.0 == tag) (fs ++ others)) in
      omega (arith, more, more_both, many_append fs others)

  -- a field at the head that has it
  at_head : (f : Entry) (fs : List Entry) → (f.0 == tag) ≡ true → 1 ≤ many (f ∷ fs)
  at_head f fs is = rw is (omega arith)

  -- a field after the head is a field of the list
  behind_head : (f : Entry) (fs : List Entry) → 1 ≤ many fs → 1 ≤ many (f ∷ fs)
  behind_head f fs there = omega (arith, there, many_more (f.0 == tag) f (filter (λ (f : Entry). f.0 == tag) fs))

  one : (fs : List Entry) → has_tag tag fs ≡ true → 1 ≤ many fs
  one [] h = absurd (true≢false (sym h))
  one (f ∷ fs) h =
      elim (cases_Bool (f.0 == tag)) [
        | inl is ↦ at_head f fs is
        | inr other ↦ behind_head f fs (one fs (rw other at h))
      ]

  itself : (q : ℕ) → (q == q) ≡ true
  itself q = grind (arith, nat_tests)

  -- where the tag occurs earlier in its part, that is a part that holds it
  abbrev IsBefore : FieldPosition → List LocatedFields → Type 0
  IsBefore x earlier = (q : ℕ) × ((is_in q x ≡ true) × (has_tag tag (part q earlier) ≡ true))

  before : (x : FieldPosition) (earlier : List LocatedFields) → repeats tag x earlier ≡ true → IsBefore x earlier
  before Unknown earlier h = absurd (true≢false (sym h))
  before (InPart q) earlier h = (q, (itself q, h))
  before (Begins q around) earlier h = (q, (itself q, h))
  before (Misplaced q) earlier h = (q, (itself q, h))

  abbrev IsTwo : List LocatedFields → Type 0
  IsTwo ps = (q : ℕ) × (2 ≤ many (part q ps))

  -- a field in a part with an earlier field of the tag makes two
  makes_two : (p : LocatedFields) (ps earlier : List LocatedFields) → (p.0.0 == tag) ≡ true → IsBefore p.1 earlier → IsTwo (earlier ++ p ∷ ps)
  makes_two p ps earlier is there =
      let q = there.0 in
      let other : 1 ≤ many (part q (p ∷ ps)) = rw there.1.0 (at_head p.0 (part q ps) is) in
      let all = ap many (part_append q earlier (p ∷ ps)) ∙ many_append (part q earlier) (part q (p ∷ ps)) in
      (q, omega (arith, one (part q earlier) there.1.1, other, all))

  -- the first one found has two
  two : (ps earlier : List LocatedFields) → twice earlier ps ≡ Some tag → IsTwo (earlier ++ ps)
  two [] earlier h = absurd (none_some tag h)
  two (p ∷ ps) earlier h =
      elim (cases_Bool (repeats p.0.0 p.1 earlier)) [
        | inl again ↦
            let same : p.0.0 ≡ tag = same_some p.0.0 tag (rw again at h) in
            makes_two p ps earlier (grind (arith, nat_tests, same)) (before p.1 earlier (rw same at again))
        | inr new ↦
            let on : twice (earlier ++ p ∷ []) ps ≡ Some tag = rw new at h in
            subst IsTwo (append_assoc earlier (p ∷ []) ps) (two ps (earlier ++ p ∷ []) on)
      ]

pub doubled : (fields : List Entry) (tag : ℕ) → is_grouped (type_in fields) ≡ true → fault_in fields ≡ Some (Twice tag)
    → (q : ℕ) × (2 ≤ length (filter (λ (f : Entry). f.0 == tag) (part q (placed_in fields))))
doubled fields tag grouped fault = two tag (placed_in fields) [] (twice_stated header_rows (rows_in fields) (placed_in fields) fields tag (rw grouped at fault))
