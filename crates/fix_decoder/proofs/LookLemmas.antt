-- Fields of printed slots have no fault.
use Rattle.std.proofs.Common.{◌≡◌, ℕ, ◌+◌, ◌≤◌, true, false, Bool, List, [], ◌∷◌, ◌++◌, refl, sym, ap, ◌∙◌, arith, rules, ◌==◌, ◌&&◌, ◌||◌, not, nat_le, length, length-append, decimal, Option, Some, None, inl, inr, is_some, if◌then◌else◌}
use Rattle.std.specs.List.{AllByRecursion}
use Rattle.std.proofs.lemmas.Bool.Decides.{nat_tests}
use Rattle.std.proofs.lemmas.Bool.{cases_eq}
use Rattle.std.proofs.lemmas.Fmt.{length-decimal-le}
use Rattle.fix_fields.specs.declared.value.ValueFault.{ValueFault}
use Rattle.fix_fields.specs.declared.value.ValueFault.TheVariants as value
use Rattle.fix_fields.specs.Fields.{Entry, value_of, IsTag, AreFields, field_text, fields_text}
use Rattle.fix_validation.specs.declared.table.Row.{Row}
use Rattle.fix_validation.specs.Table.{value_fault}
use Rattle.fix_validation.specs.Faults.{form_of, has_tag, missing, faulty, fault_as, is_fault, first_fault, repeated}
use Rattle.fix_validation.specs.Holding.{RowHolds, Holds}
use Rattle.fix_dictionary.specs.Fits.{Given}
use Rattle.fix_dictionary.specs.Text.{Slot, with_slot, fields_of, slots_text}
use Rattle.fix_decoder.proofs.FormLemmas.{Filled, longest}
use Rattle.fix_decoder.proofs.ValueLemmas.{IsShort}

pub both_true : (a b : Bool) → (a && b) ≡ true → (a ≡ true) × (b ≡ true)
both_true true b h = (refl, h)
both_true false b h = absurd (search (h, rules))

pub not_true : (b : Bool) → not b ≡ true → b ≡ false
not_true true h = absurd (search (h, rules))
not_true false h = refl

pub either_false : (a b : Bool) → (a || b) ≡ false → (a ≡ false) × (b ≡ false)
either_false true b h = absurd (search (h, rules))
either_false false b h = (refl, h)

and_false : (a b : Bool) → b ≡ false → (a && b) ≡ false
and_false true b h = h
and_false false b h = refl

and_true : (a b : Bool) → a ≡ true → b ≡ true → (a && b) ≡ true
and_true a b h k = rw (h, k) refl

or_false : (a b : Bool) → a ≡ false → b ≡ false → (a || b) ≡ false
or_false a b h k = rw (h, k) refl

false_not : (b : Bool) → b ≡ false → not b ≡ true
false_not b h = rw h refl

turned : (a b : ℕ) → (a == b) ≡ false → (b == a) ≡ false
turned a b h = grind (arith, nat_tests, h)

-- Fields with distinct tags.

abbrev pub are_single : List Entry → Bool
are_single [] = true
are_single (f ∷ fs) = not (has_tag f.0 fs) && are_single fs

-- none of the tags occurs among the earlier fields
abbrev are_new : List Entry → List Entry → Bool
are_new earlier [] = true
are_new earlier (f ∷ fs) = not (has_tag f.0 earlier) && are_new earlier fs

new_of_none : (fields : List Entry) → are_new [] fields ≡ true
new_of_none [] = refl
new_of_none (f ∷ fs) = new_of_none fs

or_assoc : (a b c : Bool) → (a || (b || c)) ≡ ((a || b) || c)
or_assoc true b c = refl
or_assoc false b c = refl

pub has_tag_append : (tag : ℕ) (fs gs : List Entry) → has_tag tag (fs ++ gs) ≡ (has_tag tag fs || has_tag tag gs)
has_tag_append tag [] gs = refl
has_tag_append tag (f ∷ fs) gs = ap (λ b. (f.0 == tag) || b) (has_tag_append tag fs gs) ∙ or_assoc (f.0 == tag) (has_tag tag fs) (has_tag tag gs)

-- another field, of another tag, leaves them new
new_behind : (f : Entry) (earlier fields : List Entry) → are_new earlier fields ≡ true → has_tag f.0 fields ≡ false → are_new (earlier ++ f ∷ []) fields ≡ true
new_behind f earlier [] h k = refl
new_behind f earlier (g ∷ gs) h k =
    let parts = both_true (not (has_tag g.0 earlier)) (are_new earlier gs) h in
    let others = either_false (g.0 == f.0) (has_tag f.0 gs) k in
    let absent : has_tag g.0 (earlier ++ f ∷ []) ≡ false =
    has_tag_append g.0 earlier (f ∷ []) ∙ or_false _ _ (not_true (has_tag g.0 earlier) parts.0) (or_false _ _ (turned g.0 f.0 others.0) refl) in
    and_true _ _ (false_not _ absent) (new_behind f earlier gs parts.1 others.1)

-- nothing is repeated
none_repeated : (rows : List Row) (earlier fields : List Entry) → are_single fields ≡ true → are_new earlier fields ≡ true → repeated rows earlier fields ≡ None
none_repeated rows earlier [] d n = refl
none_repeated rows earlier (f ∷ fs) d n =
    let single = both_true (not (has_tag f.0 fs)) (are_single fs) d in
    let new = both_true (not (has_tag f.0 earlier)) (are_new earlier fs) n in
    rw (and_false (is_some (form_of f.0 rows)) (has_tag f.0 earlier) (not_true (has_tag f.0 earlier) new.0))
    (none_repeated rows (earlier ++ f ∷ []) fs single.1 (new_behind f earlier fs new.1 (not_true (has_tag f.0 fs) single.0)))

-- each field of a part is the first one of its tag
abbrev AreFirst : List Entry → List Entry → Type 0
AreFirst fields part = AllByRecursion (λ (f : Entry). value_of f.0 fields ≡ Some f.1) part

first_behind : (g : Entry) (fields part : List Entry) → has_tag g.0 part ≡ false → AreFirst fields part → AreFirst (g ∷ fields) part
first_behind g fields [] h k = tt
first_behind g fields (f ∷ fs) h k =
    let others = either_false (f.0 == g.0) (has_tag g.0 fs) h in
    (rw (turned f.0 g.0 others.0) k.0, first_behind g fields fs others.1 k.1)

are_first : (fields : List Entry) → are_single fields ≡ true → AreFirst fields fields
are_first [] h = tt
are_first (f ∷ fs) h =
    let parts = both_true (not (has_tag f.0 fs)) (are_single fs) h in
    let same : (f.0 == f.0) ≡ true = grind (arith, nat_tests) in
    (rw same refl, first_behind f fs fs (not_true (has_tag f.0 fs) parts.0) (are_first fs parts.1))

-- Fields for which each row holds.

some_not_none : {X : Type 0} (x : X) → None ≡ Some x → ⊥
some_not_none x h = search (h, rules)

pub present : (tag : ℕ) (bytes : List ℕ) (fs : List Entry) → value_of tag fs ≡ Some bytes → has_tag tag fs ≡ true
present tag bytes [] h = absurd (some_not_none bytes h)
present tag bytes (f ∷ fs) h =
    elim (cases_eq f.0 tag) [
      | inl same ↦ let test : (f.0 == tag) ≡ true = grind (arith, nat_tests) in rw test refl
      | inr other ↦ let test : (f.0 == tag) ≡ false = grind (arith, nat_tests) in rw test (present tag bytes fs (rw test at h))
    ]

pub row_given : (r : Row) (fields : List Entry) (o : Option (List ℕ)) → RowHolds r o → value_of r.tag fields ≡ o → (r.required && not (has_tag r.tag fields)) ≡ false
row_given r fields None h e = rw h refl
row_given r fields (Some bytes) h e = rw (present r.tag bytes fields e) (and_false r.required false refl)

none_missing : (rows : List Row) (fields : List Entry) → Holds rows fields → missing rows fields ≡ None
none_missing [] fields h = refl
none_missing (r ∷ rs) fields h = rw (row_given r fields (value_of r.tag fields) h.0 refl) (none_missing rs fields h.1)

row_right : (r : Row) (bytes : List ℕ) (o : Option (List ℕ)) → RowHolds r o → o ≡ Some bytes → value_fault r.form bytes ≡ None
row_right r bytes None h e = absurd (some_not_none bytes e)
row_right r bytes (Some b) h e = let same : b ≡ bytes = search (e, rules) in rw (← same) h

named_right : (rows : List Row) (fields : List Entry) → Holds rows fields → (tag : ℕ) (bytes : List ℕ) → value_of tag fields ≡ Some bytes → fault_as (form_of tag rows) bytes ≡ None
named_right [] fields h tag bytes e = refl
named_right (r ∷ rs) fields h tag bytes e =
    elim (cases_eq r.tag tag) [
      | inl same ↦
          let test : (r.tag == tag) ≡ true = grind (arith, nat_tests) in
          let value : value_of r.tag fields ≡ Some bytes = rw same e in
          rw test (row_right r bytes (value_of r.tag fields) h.0 value)
      | inr other ↦
          let test : (r.tag == tag) ≡ false = grind (arith, nat_tests) in
          rw test (named_right rs fields h.1 tag bytes e)
    ]

pub no_fault : (fault : ValueFault) → is_fault fault None ≡ false
no_fault value.Format = refl
no_fault value.Range = refl

none_faulty : (fault : ValueFault) (rows : List Row) (fields part : List Entry) → Holds rows fields → AreFirst fields part → faulty fault rows part ≡ None
none_faulty fault rows fields [] h k = refl
none_faulty fault rows fields (f ∷ fs) h k =
    let right : is_fault fault (fault_as (form_of f.0 rows) f.1) ≡ false =
    ap (is_fault fault) (named_right rows fields h f.0 f.1 k.0) ∙ no_fault fault in
    rw right (none_faulty fault rows fields fs h k.1)

pub faultless_where_all_hold : (rows : List Row) (fields : List Entry) → are_single fields ≡ true → Holds rows fields → first_fault rows fields ≡ None
unfolding first_fault
faultless_where_all_hold rows fields d h =
    rw (
      none_repeated rows [] fields d (new_of_none fields),
      none_missing rows fields h,
      none_faulty value.Format rows fields fields h (are_first fields d),
      none_faulty value.Range rows fields fields h (are_first fields d),
    ) refl

-- Slots.

-- the value in the slot with the tag
abbrev pub slot_of : ℕ → List Slot → Option (List ℕ)
slot_of tag [] = None
slot_of tag (s ∷ ss) = if s.0 == tag then s.1 else slot_of tag ss

abbrev pub has_slot : ℕ → List Slot → Bool
has_slot tag [] = false
has_slot tag (s ∷ ss) = (s.0 == tag) || has_slot tag ss

-- no two slots have one tag
abbrev pub are_distinct : List Slot → Bool
are_distinct [] = true
are_distinct (s ∷ ss) = not (has_slot s.0 ss) && are_distinct ss

-- no two fields have one tag, and each tag has the value of its slot
pub record Shows (fields : List Entry) (slots : List Slot) : Type 0 where
  pub once : are_single fields ≡ true
  pub values : (tag : ℕ) → value_of tag fields ≡ slot_of tag slots

-- a field of a slot with another tag is skipped
value_passed : (tag other : ℕ) (o : Option (List ℕ)) (fs : List Entry) → (other == tag) ≡ false → value_of tag (with_slot other o fs) ≡ value_of tag fs
value_passed tag other None fs h = refl
value_passed tag other (Some bytes) fs h = rw h refl

value_absent : (tag : ℕ) (ss : List Slot) → has_slot tag ss ≡ false → value_of tag (fields_of ss) ≡ None
value_absent tag [] h = refl
value_absent tag (s ∷ ss) h =
    let parts = either_false (s.0 == tag) (has_slot tag ss) h in
    value_passed tag s.0 s.1 (fields_of ss) parts.0 ∙ value_absent tag ss parts.1

value_here : (tag : ℕ) (o : Option (List ℕ)) (fs : List Entry) → value_of tag fs ≡ None → value_of tag (with_slot tag o fs) ≡ o
value_here tag None fs h = h
value_here tag (Some bytes) fs h = let test : (tag == tag) ≡ true = grind (arith, nat_tests) in rw test refl

-- where no tag occurs twice, a value is that of its slot
pub value_slot : (tag : ℕ) (ss : List Slot) → are_distinct ss ≡ true → value_of tag (fields_of ss) ≡ slot_of tag ss
value_slot tag [] h = refl
value_slot tag (s ∷ ss) h =
    let parts = both_true (not (has_slot s.0 ss)) (are_distinct ss) h in
    elim (cases_eq s.0 tag) [
      | inl same ↦
          let test : (s.0 == tag) ≡ true = grind (arith, nat_tests) in
          let none : value_of tag (fields_of ss) ≡ None = value_absent tag ss (rw same at (not_true (has_slot s.0 ss) parts.0)) in
          rw test (ap (λ (n : ℕ). value_of tag (with_slot n s.1 (fields_of ss))) same ∙ value_here tag s.1 (fields_of ss) none)
      | inr other ↦
          let test : (s.0 == tag) ≡ false = grind (arith, nat_tests) in
          rw test (value_passed tag s.0 s.1 (fields_of ss) test ∙ value_slot tag ss parts.1)
    ]

tag_passed : (tag other : ℕ) (o : Option (List ℕ)) (fs : List Entry) → (other == tag) ≡ false → has_tag tag fs ≡ false → has_tag tag (with_slot other o fs) ≡ false
tag_passed tag other None fs h k = k
tag_passed tag other (Some bytes) fs h k = or_false _ _ h k

pub tag_absent : (tag : ℕ) (ss : List Slot) → has_slot tag ss ≡ false → has_tag tag (fields_of ss) ≡ false
tag_absent tag [] h = refl
tag_absent tag (s ∷ ss) h =
    let parts = either_false (s.0 == tag) (has_slot tag ss) h in
    tag_passed tag s.0 s.1 (fields_of ss) parts.0 (tag_absent tag ss parts.1)

single_with : (tag : ℕ) (o : Option (List ℕ)) (fs : List Entry) → has_tag tag fs ≡ false → are_single fs ≡ true → are_single (with_slot tag o fs) ≡ true
single_with tag None fs h k = k
single_with tag (Some bytes) fs h k = and_true _ _ (false_not _ h) k

pub single_fields : (ss : List Slot) → are_distinct ss ≡ true → are_single (fields_of ss) ≡ true
single_fields [] h = refl
single_fields (s ∷ ss) h =
    let parts = both_true (not (has_slot s.0 ss)) (are_distinct ss) h in
    single_with s.0 s.1 (fields_of ss) (tag_absent s.0 ss (not_true (has_slot s.0 ss) parts.0)) (single_fields ss parts.1)

pub shows : (ss : List Slot) → are_distinct ss ≡ true → Shows (fields_of ss) ss
shows ss h = record { once = single_fields ss h; values = λ tag. value_slot tag ss h }

-- Slots that fill rows, one by one.

abbrev pub Fill : List Row → List Slot → Type 0
Fill [] [] = Unit {0}
Fill [] (s ∷ ss) = ⊥
Fill (r ∷ rs) [] = ⊥
Fill (r ∷ rs) (s ∷ ss) = (s.0 ≡ r.tag) × (Filled r s.1 × Fill rs ss)

pub fill_both : (rs : List Row) (ss : List Slot) (others : List Row) (more : List Slot) → Fill rs ss → Fill others more → Fill (rs ++ others) (ss ++ more)
fill_both [] [] others more h k = k
fill_both [] (s ∷ ss) others more h k = absurd h
fill_both (r ∷ rs) [] others more h k = absurd h
fill_both (r ∷ rs) (s ∷ ss) others more h k = (h.0, (h.1.0, fill_both rs ss others more h.1.1 k))

-- each slot of a part is the one with its tag
abbrev AreOwn : List Slot → List Slot → Type 0
AreOwn slots part = AllByRecursion (λ (s : Slot). slot_of s.0 slots ≡ s.1) part

own_behind : (t : Slot) (slots part : List Slot) → has_slot t.0 part ≡ false → AreOwn slots part → AreOwn (t ∷ slots) part
own_behind t slots [] h k = tt
own_behind t slots (s ∷ ss) h k =
    let others = either_false (s.0 == t.0) (has_slot t.0 ss) h in
    (rw (turned s.0 t.0 others.0) k.0, own_behind t slots ss others.1 k.1)

own_slots : (slots : List Slot) → are_distinct slots ≡ true → AreOwn slots slots
own_slots [] h = tt
own_slots (s ∷ ss) h =
    let parts = both_true (not (has_slot s.0 ss)) (are_distinct ss) h in
    let same : (s.0 == s.0) ≡ true = grind (arith, nat_tests) in
    (rw same refl, own_behind s ss ss (not_true (has_slot s.0 ss) parts.0) (own_slots ss parts.1))

part_holds : (rows : List Row) (part slots : List Slot) (fields : List Entry) → Shows fields slots → Fill rows part → AreOwn slots part → Holds rows fields
part_holds [] [] slots fields h f own = tt
part_holds [] (s ∷ ss) slots fields h f own = absurd f
part_holds (r ∷ rs) [] slots fields h f own = absurd f
part_holds (r ∷ rs) (s ∷ ss) slots fields h f own =
    let value : value_of r.tag fields ≡ s.1 = ap (λ (n : ℕ). value_of n fields) (sym f.0) ∙ h.values s.0 ∙ own.0 in
    (rw value f.1.0.holds, part_holds rs ss slots fields h f.1.1 own.1)

pub fill_holds : (rows : List Row) (slots : List Slot) (fields : List Entry) → Fill rows slots → are_distinct slots ≡ true → Shows fields slots → Holds rows fields
fill_holds rows slots fields f d h = part_holds rows slots slots fields h f (own_slots slots d)

-- The text of such slots.

abbrev pub is_tag : ℕ → Bool
is_tag tag = nat_le 1 tag && nat_le tag 999_999_999

tag_from : (tag : ℕ) → is_tag tag ≡ true → IsTag tag
tag_from tag h =
    let parts = both_true (nat_le 1 tag) (nat_le tag 999_999_999) h in
    let first : 1 ≤ tag = grind (arith, nat_tests, parts.0) in
    let last : tag ≤ 999_999_999 = grind (arith, nat_tests, parts.1) in
    record { low = first; high = last }

abbrev pub have_tags : List Row → Bool
have_tags [] = true
have_tags (r ∷ rs) = is_tag r.tag && have_tags rs

-- the most bytes of the fields of rows
abbrev pub headroom : List Row → ℕ
headroom [] = 0
headroom (r ∷ rs) = 11 + longest r.form + headroom rs

field_with : (tag longest : ℕ) (o : Option (List ℕ)) (fs : List Entry) → IsTag tag → Given (IsShort longest) o → AreFields fs → AreFields (with_slot tag o fs)
field_with tag longest None fs t h k = k
field_with tag longest (Some bytes) fs t h k = ((t, h.value), k)

pub fill_fields : (rows : List Row) (slots : List Slot) → Fill rows slots → have_tags rows ≡ true → AreFields (fields_of slots)
fill_fields [] [] f t = tt
fill_fields [] (s ∷ ss) f t = absurd f
fill_fields (r ∷ rs) [] f t = absurd f
fill_fields (r ∷ rs) (s ∷ ss) f t =
    let parts = both_true (is_tag r.tag) (have_tags rs) t in
    field_with s.0 (longest r.form) s.1 (fields_of ss) (rw f.0 (tag_from r.tag parts.0)) f.1.0.text (fill_fields rs ss f.1.1 parts.1)

field_length : (tag : ℕ) (bytes : List ℕ) → IsTag tag → length (field_text tag bytes) ≤ 11 + length bytes
field_length tag bytes t =
    omega (arith, length-append (decimal tag) (61 ∷ (bytes ++ 1 ∷ [])), length-append bytes (1 ∷ []), length-decimal-le 9 tag (omega arith) (omega (arith, t.high)) (omega (arith, t.high)))

length_with : (tag longest : ℕ) (o : Option (List ℕ)) (fs : List Entry) → IsTag tag → Given (IsShort longest) o → length (fields_text (with_slot tag o fs)) ≤ 11 + longest + length (fields_text fs)
length_with tag longest None fs t h = omega arith
length_with tag longest (Some bytes) fs t h =
    omega (arith, length-append (field_text tag bytes) (fields_text fs), field_length tag bytes t, h.short)

pub fill_length : (rows : List Row) (slots : List Slot) → Fill rows slots → have_tags rows ≡ true → length (slots_text slots) ≤ headroom rows
fill_length [] [] f t = omega arith
fill_length [] (s ∷ ss) f t = absurd f
fill_length (r ∷ rs) [] f t = absurd f
fill_length (r ∷ rs) (s ∷ ss) f t =
    let parts = both_true (is_tag r.tag) (have_tags rs) t in
    omega (arith, length_with s.0 (longest r.form) s.1 (fields_of ss) (rw f.0 (tag_from r.tag parts.0)) f.1.0.text, fill_length rs ss f.1.1 parts.1)
