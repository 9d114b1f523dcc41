-- Where a table finds no fault, each of its rows holds.
use Rattle.std.proofs.Common.{◌≡◌, ℕ, true, false, Bool, List, [], ◌∷◌, refl, sym, ap, ◌∙◌, arith, rules, cond, ◌==◌, ◌&&◌, ◌||◌, not, Option, Some, None, inl, inr}
use Rattle.std.specs.List.{AllByRecursion}
use Rattle.std.proofs.lemmas.Bool.Decides.{nat_tests}
use Rattle.std.proofs.lemmas.Bool.{cases_eq}
use Rattle.fix_fields.specs.declared.value.ValueFault.{ValueFault}
use Rattle.fix_fields.specs.declared.value.ValueFault.TheVariants as value
use Rattle.fix_fields.specs.Fields.{Entry, value_of}
use Rattle.fix_validation.specs.declared.table.Form.{Form}
use Rattle.fix_validation.specs.declared.table.Row.{Row}
use Rattle.fix_validation.specs.declared.faults.DictFault.{DictFault}
use Rattle.fix_validation.specs.declared.faults.DictFault.TheVariants.{Twice, Missing, Format, Range, NoMemory}
use Rattle.fix_validation.specs.Faults.{form_of, has_tag, missing, faulty, fault_as, is_fault, first_fault, or_else, repeated}
use Rattle.fix_validation.specs.Holding.{RowHolds, Holds}

pub some_not_none : {X : Type 0} (x : X) → Some x ≡ None → ⊥
some_not_none x h = search (h, rules)

pub or_else_none : (fault : ℕ → DictFault) (o : Option ℕ) (next : Option DictFault) → or_else fault o next ≡ None → (o ≡ None) × (next ≡ None)
or_else_none fault None next h = (refl, h)
or_else_none fault (Some tag) next h = absurd (some_not_none (fault tag) h)

-- no fault of any kind
pub record Faultless (rows : List Row) (fields : List Entry) : Type 0 where
  pub once : repeated rows [] fields ≡ None
  pub present : missing rows fields ≡ None
  pub formed : faulty value.Format rows fields ≡ None
  pub ranged : faulty value.Range rows fields ≡ None

pub faultless : (rows : List Row) (fields : List Entry) → first_fault rows fields ≡ None → Faultless rows fields
unfolding first_fault
faultless rows fields h =
    let a = or_else_none _ _ _ h in
    let b = or_else_none _ _ _ a.1 in
    let c = or_else_none _ _ _ b.1 in
    let d = or_else_none _ _ _ c.1 in
    record { once = a.0; present = b.0; formed = c.0; ranged = d.0 }

pub cond_none : (b : Bool) (tag : ℕ) (next : Option ℕ) → cond b (Some tag) next ≡ None → (b ≡ false) × (next ≡ None)
cond_none true tag next h = absurd (some_not_none tag h)
cond_none false tag next h = (refl, h)

-- no value has the fault
value_without : (fault : ValueFault) (rows : List Row) (fields : List Entry) → faulty fault rows fields ≡ None
    → (tag : ℕ) (bytes : List ℕ) → value_of tag fields ≡ Some bytes → is_fault fault (fault_as (form_of tag rows) bytes) ≡ false
value_without fault rows [] h tag bytes e = absurd (some_not_none bytes (sym e))
value_without fault rows (f ∷ fs) h tag bytes e =
    let none = cond_none _ _ _ h in
    elim (cases_eq f.0 tag) [
      | inl same ↦
          let test : (f.0 == tag) ≡ true = grind (arith, nat_tests) in
          let value : Some f.1 ≡ Some bytes = rw test at e in
          let bytes_same : f.1 ≡ bytes = search (value, rules) in
          rw (← same, ← bytes_same) none.0
      | inr other ↦
          let test : (f.0 == tag) ≡ false = grind (arith, nat_tests) in
          value_without fault rows fs none.1 tag bytes (rw test at e)
    ]

pub neither : (o : Option ValueFault) → is_fault value.Format o ≡ false → is_fault value.Range o ≡ false → o ≡ None
neither None h k = refl
neither (Some value.Format) h k = absurd (search (h, rules))
neither (Some value.Range) h k = absurd (search (k, rules))

or_false : (a b : Bool) → a ≡ false → b ≡ false → (a || b) ≡ false
or_false a b h k = rw (h, k) refl

pub absent : (tag : ℕ) (fields : List Entry) → value_of tag fields ≡ None → has_tag tag fields ≡ false
absent tag [] h = refl
absent tag (f ∷ fs) h =
    elim (cases_eq f.0 tag) [
      | inl same ↦
          let test : (f.0 == tag) ≡ true = grind (arith, nat_tests) in
          absurd (some_not_none f.1 (rw test at h))
      | inr other ↦
          let test : (f.0 == tag) ≡ false = grind (arith, nat_tests) in
          or_false _ _ test (absent tag fs (rw test at h))
    ]

pub not_required : (required present : Bool) → (required && not present) ≡ false → present ≡ false → required ≡ false
not_required true present h k = absurd (search (h, k, rules))
not_required false present h k = refl

row_holds : (rows : List Row) (fields : List Entry) → Faultless rows fields → (r : Row) → form_of r.tag rows ≡ Some r.form
    → (r.required && not (has_tag r.tag fields)) ≡ false → (o : Option (List ℕ)) → value_of r.tag fields ≡ o → RowHolds r o
row_holds rows fields h r own given None e = not_required _ _ given (absent r.tag fields e)
row_holds rows fields h r own given (Some bytes) e =
    ap (λ (form : Option Form). fault_as form bytes) (sym own)
    ∙ neither _ (value_without value.Format rows fields h.formed r.tag bytes e) (value_without value.Range rows fields h.ranged r.tag bytes e)

-- each row of a part of the rows has in all the rows its own form
abbrev pub HasOwnForms : List Row → List Row → Type 0
HasOwnForms rows part = AllByRecursion (λ (r : Row). form_of r.tag rows ≡ Some r.form) part

part_holds : (rows : List Row) (fields : List Entry) → Faultless rows fields → (part : List Row) → HasOwnForms rows part → missing part fields ≡ None → Holds part fields
part_holds rows fields h [] own given = tt
part_holds rows fields h (r ∷ rs) own given =
    let none = cond_none _ _ _ given in
    (row_holds rows fields h r own.0 none.0 _ refl, part_holds rows fields h rs own.1 none.1)

pub holds : (rows : List Row) (fields : List Entry) → HasOwnForms rows rows → first_fault rows fields ≡ None → Holds rows fields
holds rows fields own h = part_holds rows fields (faultless rows fields h) rows own (faultless rows fields h).present

found_as : (fault : ℕ → DictFault) (o : Option ℕ) (next : Option DictFault) → ((tag : ℕ) → Some (fault tag) ≡ Some NoMemory → ⊥)
    → (next ≡ Some NoMemory → ⊥) → or_else fault o next ≡ Some NoMemory → ⊥
found_as fault None next own others h = others h
found_as fault (Some tag) next own others h = own tag h

-- the first fault is not an allocation failure
pub no_want : (rows : List Row) (fields : List Entry) → first_fault rows fields ≡ Some NoMemory → ⊥
unfolding first_fault
no_want rows fields =
    found_as Twice _ _ (λ tag h. search (h, rules))
    (found_as Missing _ _ (λ tag h. search (h, rules))
    (found_as Format _ _ (λ tag h. search (h, rules))
    (found_as Range _ _ (λ tag h. search (h, rules)) (λ h. some_not_none NoMemory (sym h)))))
