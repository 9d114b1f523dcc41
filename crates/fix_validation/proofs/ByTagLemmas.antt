-- Fields found by their tags: where each row holds, they have no fault of any kind.
use Rattle.std.proofs.Common.{◌≡◌, ℕ, zero, suc, ◌%◌, ◌≤◌, ◌<◌, true, false, Bool, List, [], ◌∷◌, ◌++◌, length, take, drop, refl, sym, ap, ◌∙◌, arith, rules, ◌==◌, ◌&&◌, ◌||◌, not, Option, Some, None, inl, inr, is_some, is_none, slice_index}
use Rattle.std.proofs.Math.ListN.{set}
use Rattle.std.specs.List.{AllByRecursion}
use Rattle.std.proofs.lemmas.List.{append_assoc, take_all, get_or-set_same, get_or-set_other}
use Rattle.std.proofs.lemmas.Bool.Decides.{nat_tests}
use Rattle.std.proofs.lemmas.Bool.{cases_eq}
use Rattle.fix_fields.specs.declared.value.ValueFault.{ValueFault}
use Rattle.fix_fields.specs.declared.value.ValueFault.TheVariants as value
use Rattle.fix_fields.specs.Fields.{Entry, value_of}
use Rattle.fix_validation.specs.declared.table.Row.{Row}
use Rattle.fix_validation.specs.ByTag.{any_twice, AreNoted, row_holds, rows_hold}
use Rattle.fix_validation.specs.Table.{value_fault}
use Rattle.fix_validation.specs.Faults.{form_of, has_tag, missing, faulty, fault_as, is_fault, first_fault, repeated}
use Rattle.fix_validation.specs.Holding.{RowHolds, Holds}

both_true : (a b : Bool) → (a && b) ≡ true → (a ≡ true) × (b ≡ true)
both_true true b h = (refl, h)
both_true false b h = absurd (search (h, rules))

not_true : (b : Bool) → not b ≡ true → b ≡ false
not_true true h = absurd (search (h, rules))
not_true false h = refl

either_false : (a b : Bool) → (a || b) ≡ false → (a ≡ false) × (b ≡ false)
either_false true b h = absurd (search (h, rules))
either_false false b h = (refl, h)

or_false : (a b : Bool) → a ≡ false → b ≡ false → (a || b) ≡ false
or_false a b h k = rw (h, k) refl

and_false : (a b : Bool) → b ≡ false → (a && b) ≡ false
and_false true b h = h
and_false false b h = refl

-- Places of fields by their tags.

-- the fields after those without the tag have the same value for it
pub value_from : (tag n : ℕ) (fields : List Entry) → has_tag tag (take n fields) ≡ false → value_of tag (drop n fields) ≡ value_of tag fields
value_from tag zero fields h = refl
value_from tag (suc n) [] h = refl
value_from tag (suc n) (f ∷ fs) h =
    let parts = either_false (f.0 == tag) (has_tag tag (take n fs)) h in
    rw parts.0 (value_from tag n fs parts.1)

-- another field, of another tag where the place lies past all
still_noted : (tag s n : ℕ) (fields : List Entry) (f : Entry) → n ≤ s → (length fields < n → (f.0 == tag) ≡ false)
    → has_tag tag (take s fields) ≡ false → has_tag tag (take n (fields ++ f ∷ [])) ≡ false
still_noted tag s zero fields f le other h = refl
still_noted tag s (suc zero) [] f le other h = or_false _ _ (other (omega arith)) refl
still_noted tag s (suc (suc n)) [] f le other h = or_false _ _ (other (omega arith)) refl
still_noted tag zero (suc n) (g ∷ gs) f le other h = absurd (omega arith)
still_noted tag (suc s) (suc n) (g ∷ gs) f le other h =
    let parts = either_false (g.0 == tag) (has_tag tag (take s gs)) h in
    or_false _ _ parts.0 (still_noted tag s n gs f (omega arith) (λ more. other (omega arith)) parts.1)

pub absent_before : (places : List ℕ) (fields : List Entry) (tag : ℕ) → AreNoted places fields → length fields ≤ slice_index places (tag % 128) → has_tag tag fields ≡ false
absent_before places fields tag h past =
    let none = h tag in
    rw (sym (take_all (slice_index places (tag % 128)) fields past)) none

pub noted_kept : (places : List ℕ) (fields : List Entry) (f : Entry) → AreNoted places fields → slice_index places (f.0 % 128) < length fields → AreNoted places (fields ++ f ∷ [])
noted_kept places fields f h before tag =
    still_noted tag (slice_index places (tag % 128)) (slice_index places (tag % 128)) fields f (omega arith)
    (λ more. elim (cases_eq f.0 tag) [
      | inl same ↦ let e = ap (λ t. slice_index places (t % 128)) same in absurd (omega arith)
      | inr other ↦ grind (arith, nat_tests)
    ]) (h tag)

pub noted_set : (places : List ℕ) (fields : List Entry) (f : Entry) (many : ℕ) → length fields ≡ many → AreNoted places fields → f.0 % 128 < length places
    → many ≤ slice_index places (f.0 % 128) → AreNoted (set places (f.0 % 128) many) (fields ++ f ∷ [])
noted_set places fields f many counted h headroom past tag =
    elim (cases_eq (tag % 128) (f.0 % 128)) [
      | inl same ↦
          let e : slice_index (set places (f.0 % 128) many) (tag % 128) ≡ many = rw same (get_or-set_same places (f.0 % 128) many 0 headroom) in
          let s : slice_index places (tag % 128) ≡ slice_index places (f.0 % 128) = ap (slice_index places) same in
          rw e (still_noted tag (slice_index places (tag % 128)) many fields f (omega arith) (λ more. absurd (omega arith)) (h tag))
      | inr other ↦
          let e : slice_index (set places (f.0 % 128) many) (tag % 128) ≡ slice_index places (tag % 128) = get_or-set_other places (f.0 % 128) (tag % 128) many 0 other in
          rw e (still_noted tag (slice_index places (tag % 128)) (slice_index places (tag % 128)) fields f (omega arith)
          (λ more. elim (cases_eq f.0 tag) [
            | inl same ↦ absurd (other (ap (λ t. t % 128) (sym same)))
            | inr different ↦ grind (arith, nat_tests)
          ]) (h tag))
    ]

-- No tag occurs twice.

pub twice_kept : (whole : Bool) (earlier fields : List Entry) (f : Entry) → whole ≡ any_twice earlier (f ∷ fields) → has_tag f.0 earlier ≡ false → whole ≡ any_twice (earlier ++ f ∷ []) fields
twice_kept whole earlier fields f e h = e ∙ rw h refl

none_repeated : (rows : List Row) (earlier fields : List Entry) → any_twice earlier fields ≡ false → repeated rows earlier fields ≡ None
none_repeated rows earlier [] h = refl
none_repeated rows earlier (f ∷ fs) h =
    let parts = either_false (has_tag f.0 earlier) (any_twice (earlier ++ f ∷ []) fs) h in
    rw (and_false (is_some (form_of f.0 rows)) (has_tag f.0 earlier) parts.0) (none_repeated rows (earlier ++ f ∷ []) fs parts.1)

-- each field of a part is the first one of its tag
abbrev AreFirst : List Entry → List Entry → Type 0
AreFirst fields part = AllByRecursion (λ (f : Entry). value_of f.0 fields ≡ Some f.1) part

value_behind : (f : Entry) (earlier fields : List Entry) → has_tag f.0 earlier ≡ false → value_of f.0 (earlier ++ f ∷ fields) ≡ Some f.1
value_behind f [] fields h = let same : (f.0 == f.0) ≡ true = grind (arith, nat_tests) in rw same refl
value_behind f (g ∷ gs) fields h =
    let parts = either_false (g.0 == f.0) (has_tag f.0 gs) h in
    rw parts.0 (value_behind f gs fields parts.1)

are_first : (all earlier fields : List Entry) → all ≡ earlier ++ fields → any_twice earlier fields ≡ false → AreFirst all fields
are_first all earlier [] e h = tt
are_first all earlier (f ∷ fs) e h =
    let parts = either_false (has_tag f.0 earlier) (any_twice (earlier ++ f ∷ []) fs) h in
    (rw e (value_behind f earlier fs parts.0), are_first all (earlier ++ f ∷ []) fs (e ∙ sym (append_assoc earlier (f ∷ []) fs)) parts.1)

-- Rows that hold.

is_nothing : (o : Option ValueFault) → is_none o ≡ true → o ≡ None
is_nothing None h = refl
is_nothing (Some fault) h = absurd (search (h, rules))

holds_row : (r : Row) (o : Option (List ℕ)) → row_holds r o ≡ true → RowHolds r o
holds_row r None h = not_true r.required h
holds_row r (Some bytes) h = is_nothing (value_fault r.form bytes) h

hold_both : (header rows : List Row) (fields : List Entry) → rows_hold header fields ≡ true → rows_hold rows fields ≡ true → Holds (header ++ rows) fields
hold_both [] [] fields h k = tt
hold_both [] (r ∷ rs) fields h k =
    let parts = both_true (row_holds r (value_of r.tag fields)) (rows_hold rs fields) k in
    (holds_row r (value_of r.tag fields) parts.0, hold_both [] rs fields h parts.1)
hold_both (r ∷ rs) rows fields h k =
    let parts = both_true (row_holds r (value_of r.tag fields)) (rows_hold rs fields) h in
    (holds_row r (value_of r.tag fields) parts.0, hold_both rs rows fields parts.1 k)

some_not_none : {X : Type 0} (x : X) → None ≡ Some x → ⊥
some_not_none x h = search (h, rules)

present : (tag : ℕ) (bytes : List ℕ) (fs : List Entry) → value_of tag fs ≡ Some bytes → has_tag tag fs ≡ true
present tag bytes [] h = absurd (some_not_none bytes h)
present tag bytes (f ∷ fs) h =
    elim (cases_eq f.0 tag) [
      | inl same ↦ let test : (f.0 == tag) ≡ true = grind (arith, nat_tests) in rw test refl
      | inr other ↦ let test : (f.0 == tag) ≡ false = grind (arith, nat_tests) in rw test (present tag bytes fs (rw test at h))
    ]

row_given : (r : Row) (fields : List Entry) (o : Option (List ℕ)) → RowHolds r o → value_of r.tag fields ≡ o → (r.required && not (has_tag r.tag fields)) ≡ false
row_given r fields None h e = rw h refl
row_given r fields (Some bytes) h e = rw (present r.tag bytes fields e) (and_false r.required false refl)

none_missing : (rows : List Row) (fields : List Entry) → Holds rows fields → missing rows fields ≡ None
none_missing [] fields h = refl
none_missing (r ∷ rs) fields h = rw (row_given r fields (value_of r.tag fields) h.0 refl) (none_missing rs fields h.1)

row_right : (r : Row) (bytes : List ℕ) (o : Option (List ℕ)) → RowHolds r o → o ≡ Some bytes → value_fault r.form bytes ≡ None
row_right r bytes None h e = absurd (some_not_none bytes e)
row_right r bytes (Some b) h e = let same : b ≡ bytes = search (e, rules) in rw (← same) h

named_right : (rows : List Row) (fields : List Entry) → Holds rows fields → (tag : ℕ) (bytes : List ℕ) → value_of tag fields ≡ Some bytes → fault_as (form_of tag rows) bytes ≡ None
named_right [] fields h tag bytes e = refl
named_right (r ∷ rs) fields h tag bytes e =
    elim (cases_eq r.tag tag) [
      | inl same ↦
          let test : (r.tag == tag) ≡ true = grind (arith, nat_tests) in
          let value : value_of r.tag fields ≡ Some bytes = rw same e in
          rw test (row_right r bytes (value_of r.tag fields) h.0 value)
      | inr other ↦
          let test : (r.tag == tag) ≡ false = grind (arith, nat_tests) in
          rw test (named_right rs fields h.1 tag bytes e)
    ]

no_fault : (fault : ValueFault) → is_fault fault None ≡ false
no_fault value.Format = refl
no_fault value.Range = refl

none_faulty : (fault : ValueFault) (rows : List Row) (fields part : List Entry) → Holds rows fields → AreFirst fields part → faulty fault rows part ≡ None
none_faulty fault rows fields [] h k = refl
none_faulty fault rows fields (f ∷ fs) h k =
    let right : is_fault fault (fault_as (form_of f.0 rows) f.1) ≡ false =
    ap (is_fault fault) (named_right rows fields h f.0 f.1 k.0) ∙ no_fault fault in
    rw right (none_faulty fault rows fields fs h k.1)

pub faultless : (header rows : List Row) (fields : List Entry) → any_twice [] fields ≡ false → rows_hold header fields ≡ true → rows_hold rows fields ≡ true
    → first_fault (header ++ rows) fields ≡ None
unfolding first_fault
faultless header rows fields once h k =
    let all = hold_both header rows fields h k in
    let first = are_first fields [] fields refl once in
    rw (
      none_repeated (header ++ rows) [] fields once,
      none_missing (header ++ rows) fields all,
      none_faulty value.Format (header ++ rows) fields fields all first,
      none_faulty value.Range (header ++ rows) fields fields all first,
    ) refl
