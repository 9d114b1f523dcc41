-- Fields printed from slots, some of them the instances of a group: their positions, and that they have no fault.
use Rattle.std.proofs.Common.{◌≡◌, ℕ, suc, ◌+◌, ◌≤◌, ◌<◌, true, false, Bool, List, [], ◌∷◌, ◌++◌, refl, sym, ap, subst, ◌∙◌, arith, cond, ◌==◌, ◌&&◌, ◌||◌, not, length, map, append_assoc, append-nil, Option, Some, None, Ok, inl, inr, decimal, ◌*◌, length-append}
use Rattle.std.specs.List.{AllByRecursion}
use Rattle.std.proofs.lemmas.Bool.Decides.{nat_tests}
use Rattle.std.proofs.lemmas.Bool.{cases_eq}
use Rattle.fix_fields.specs.declared.value.ValueFault.{ValueFault}
use Rattle.fix_fields.specs.declared.value.ValueFault.TheVariants as value
use Rattle.fix_fields.specs.Fields.{Entry, value_of, AreFields}
use Rattle.fix_fields.specs.Forms.{within}
use Rattle.fix_fields.specs.GroupParts.{emits, is_read_as}
use Rattle.fix_fields.proofs.RoundTrip.{integer_in-decimal}
use Rattle.fix_validation.specs.declared.table.Row.{Row}
use Rattle.fix_validation.specs.declared.positions.FieldPosition.{FieldPosition}
use Rattle.fix_validation.specs.declared.positions.FieldPosition.TheVariants.{Unknown, InPart, Begins, Misplaced}
use Rattle.fix_validation.specs.declared.positions.State.{State}
use Rattle.fix_validation.specs.declared.positions.Stepped.{Stepped}
use Rattle.fix_validation.specs.Faults.{form_of, has_tag, faulty, fault_as, is_fault}
use Rattle.fix_validation.specs.Positions.{LocatedFields, group_of, first_tag, is_count, located, start, step, is_in, part, begins}
use Rattle.fix_validation.specs.GroupFaults.{repeats, twice, miscounted, or_next, lacking, is_lacking, missing_in, located_fault}
use Rattle.fix_validation.specs.Holding.{RowHolds, Holds}
use Rattle.fix_dictionary.specs.Text.{Slot, with_slot, fields_of, slots_text, each_slots}
use Rattle.fix_dictionary.proofs.TextLemmas.{fields_of_append, slots_text_append}
use Rattle.fix_decoder.proofs.HoldLemmas.{HasOwnForms}
use Rattle.fix_decoder.proofs.LookLemmas.{are_single, are_distinct, Fill, has_tag_append, both_true, not_true, either_false, single_fields, row_given, no_fault}

pub fields_append : (ss more : List Slot) → fields_of (ss ++ more) ≡ fields_of ss ++ fields_of more
fields_append ss more = fields_of_append ss more

-- Fields outside of groups.

abbrev pub at_zero : List Entry → List LocatedFields → List LocatedFields
at_zero [] rest = rest
at_zero (f ∷ fs) rest = (f, InPart 0) ∷ at_zero fs rest

-- the header names the tag of each slot
abbrev pub are_header : List Row → List Slot → Type 0
are_header header slots = AllByRecursion (λ (s : Slot). (g : ℕ) × (group_of s.0 header ≡ Some g)) slots

header_one : (header rows : List Row) (s : State) (tag : ℕ) (o : Option (List ℕ)) (g : ℕ) (fs : List Entry) (head : List Entry) (rest : List LocatedFields) → group_of tag header ≡ Some g
    → located header rows s fs ≡ at_zero head rest → located header rows s (with_slot tag o fs) ≡ at_zero (with_slot tag o head) rest
header_one header rows s tag None g fs head rest h e = e
header_one header rows s tag (Some bytes) g fs head rest h e = rw (h, e) refl

pub header_placed : (header rows : List Row) (s : State) (slots : List Slot) (fs : List Entry) → are_header header slots
    → located header rows s (fields_of slots ++ fs) ≡ at_zero (fields_of slots) (located header rows s fs)
header_placed header rows s [] fs h = refl
header_placed header rows s (t ∷ ts) fs h =
    ap (located header rows s) (moved t.0 t.1 (fields_of ts))
    ∙ header_one header rows s t.0 t.1 h.0.0 (fields_of ts ++ fs) (fields_of ts) (located header rows s fs) h.0.1 (header_placed header rows s ts fs h.1)
  where
    moved : (tag : ℕ) (o : Option (List ℕ)) (l : List Entry) → with_slot tag o l ++ fs ≡ with_slot tag o (l ++ fs)
    moved tag None l = refl
    moved tag (Some bytes) l = refl

pub zero_part : (head : List Entry) (rest : List LocatedFields) → part 0 (at_zero head rest) ≡ head ++ part 0 rest
zero_part [] rest = refl
zero_part (f ∷ fs) rest = ap (λ (l : List Entry). f ∷ l) (zero_part fs rest)

pub other_part : (q : ℕ) (head : List Entry) (rest : List LocatedFields) → (0 == q) ≡ false → part q (at_zero head rest) ≡ part q rest
other_part q [] rest h = refl
other_part q (f ∷ fs) rest h = rw h (other_part q fs rest h)

pub zero_begins : (first around : ℕ) (head : List Entry) (rest : List LocatedFields) → begins first around (at_zero head rest) ≡ begins first around rest
zero_begins first around [] rest = refl
zero_begins first around (f ∷ fs) rest = zero_begins first around fs rest

pub zero_lacking : (first tag : ℕ) (head : List Entry) (rest : List LocatedFields) → lacking first tag (at_zero head rest) ≡ lacking first tag rest
zero_lacking first tag [] rest = refl
zero_lacking first tag (f ∷ fs) rest = zero_lacking first tag fs rest

-- no slot is a count
abbrev pub are_plain : List Row → List Slot → Type 0
are_plain rows slots = AllByRecursion (λ (s : Slot). is_count s.0 rows ≡ false) slots

plain_one : (rows : List Row) (all : List LocatedFields) (tag : ℕ) (o : Option (List ℕ)) (head : List Entry) (rest : List LocatedFields) → is_count tag rows ≡ false
    → miscounted rows all (at_zero head rest) ≡ miscounted rows all rest → miscounted rows all (at_zero (with_slot tag o head) rest) ≡ miscounted rows all rest
plain_one rows all tag None head rest h e = e
plain_one rows all tag (Some bytes) head rest h e = rw h e

pub zero_counted : (rows : List Row) (all : List LocatedFields) (slots : List Slot) (rest : List LocatedFields) → are_plain rows slots → miscounted rows all (at_zero (fields_of slots) rest) ≡ miscounted rows all rest
zero_counted rows all [] rest h = refl
zero_counted rows all (s ∷ ss) rest h = plain_one rows all s.0 s.1 (fields_of ss) rest h.0 (zero_counted rows all ss rest h.1)

-- The instances of a group: the tag and the value that begin one, and its other slots.

pub record GroupOf (X : Type 0) : Type 0 where
  pub first : ℕ
  pub around : ℕ
  pub value : X → List ℕ
  pub more : X → List Slot

abbrev pub slots_of : {X : Type 0} → GroupOf X → X → List Slot
slots_of g x = (g.first, Some (g.value x)) ∷ g.more x

abbrev pub with_placed : ℕ → Option (List ℕ) → FieldPosition → List LocatedFields → List LocatedFields
with_placed tag None position rest = rest
with_placed tag (Some bytes) position rest = ((tag, bytes), position) ∷ rest

abbrev pub goes_on_in : ℕ → List Slot → List LocatedFields → List LocatedFields
goes_on_in q [] rest = rest
goes_on_in q (s ∷ ss) rest = with_placed s.0 s.1 (InPart q) (goes_on_in q ss rest)

-- instances that begin parts k + 1, k + 2, ..
abbrev pub chunk : {X : Type 0} → GroupOf X → ℕ → List X → List LocatedFields → List LocatedFields
chunk g k [] rest = rest
chunk g k (x ∷ xs) rest = ((g.first, g.value x), Begins (k + 1) g.around) ∷ goes_on_in (k + 1) (g.more x) (chunk g (k + 1) xs rest)

abbrev pub upto : {X : Type 0} → ℕ → List X → List ℕ
upto k [] = []
upto k (x ∷ xs) = (k + 1) ∷ upto (k + 1) xs

pub upto_length : {X : Type 0} (k : ℕ) (xs : List X) → length (upto k xs) ≡ length xs
upto_length k [] = refl
upto_length k (x ∷ xs) = ap suc (upto_length (k + 1) xs)

-- Their positions.

-- an open group, after an instance
pub record Opens (X : Type 0) (g : GroupOf X) (header rows : List Row) (at : ℕ → Option ℕ → State) : Type 0 where
  pub begin : (k : ℕ) (i : Option ℕ) → step header rows (at k i) g.first ≡ record { position = Begins (k + 1) g.around; state = at (k + 1) (Some (k + 1)) }
  pub other : (k : ℕ) (x : X) → AllByRecursion (λ (s : Slot). step header rows (at k (Some k)) s.0 ≡ record { position = InPart k; state = at k (Some k) }) (g.more x)

member_placed : (header rows : List Row) (s : State) (q tag : ℕ) (o : Option (List ℕ)) (fs : List Entry) (rest : List LocatedFields) → step header rows s tag ≡ record { position = InPart q; state = s }
    → located header rows s fs ≡ rest → located header rows s (with_slot tag o fs) ≡ with_placed tag o (InPart q) rest
member_placed header rows s q tag None fs rest h e = e
member_placed header rows s q tag (Some bytes) fs rest h e = rw (h, e) refl

pub members_placed : (header rows : List Row) (s : State) (q : ℕ) (slots : List Slot) (fs : List Entry) → AllByRecursion (λ (t : Slot). step header rows s t.0 ≡ record { position = InPart q; state = s }) slots
    → located header rows s (fields_of slots ++ fs) ≡ goes_on_in q slots (located header rows s fs)
members_placed header rows s q [] fs h = refl
members_placed header rows s q (t ∷ ts) fs h =
    ap (located header rows s) (moved t.0 t.1 (fields_of ts))
    ∙ member_placed header rows s q t.0 t.1 (fields_of ts ++ fs) (goes_on_in q ts (located header rows s fs)) h.0 (members_placed header rows s q ts fs h.1)
  where
    moved : (tag : ℕ) (o : Option (List ℕ)) (l : List Entry) → with_slot tag o l ++ fs ≡ with_slot tag o (l ++ fs)
    moved tag None l = refl
    moved tag (Some bytes) l = refl

-- the state after the instances
abbrev pub after : {X : Type 0} → (ℕ → Option ℕ → State) → ℕ → Option ℕ → List X → State
after at k i [] = at k i
after at k i (x ∷ xs) = after at (k + 1) (Some (k + 1)) xs

pub chunk_placed : {X : Type 0} (g : GroupOf X) (header rows : List Row) (at : ℕ → Option ℕ → State) → Opens X g header rows at → (k : ℕ) (i : Option ℕ) (xs : List X) (fs : List Entry)
    → located header rows (at k i) (fields_of (each_slots (slots_of g) xs) ++ fs) ≡ chunk g k xs (located header rows (after at k i xs) fs)
chunk_placed g header rows at o k i [] fs = refl
chunk_placed g header rows at o k i (x ∷ xs) fs =
    let rest : List Entry = fields_of (each_slots (slots_of g) xs) ++ fs in
    let split : fields_of (each_slots (slots_of g) (x ∷ xs)) ++ fs ≡ (g.first, g.value x) ∷ (fields_of (g.more x) ++ rest) =
    ap (λ (l : List Entry). l ++ fs) (fields_append (slots_of g x) (each_slots (slots_of g) xs))
    ∙ ap (λ (l : List Entry). (g.first, g.value x) ∷ l) (append_assoc (fields_of (g.more x)) (fields_of (each_slots (slots_of g) xs)) fs) in
    let next : State = at (k + 1) (Some (k + 1)) in
    ap (located header rows (at k i)) split
    ∙ ap (λ (t : Stepped). ((g.first, g.value x), t.position) ∷ located header rows t.state (fields_of (g.more x) ++ rest)) (o.begin k i)
    ∙ ap (λ (l : List LocatedFields). ((g.first, g.value x), Begins (k + 1) g.around) ∷ l)
    (members_placed header rows next (k + 1) (g.more x) rest (o.other (k + 1) x)
    ∙ ap (goes_on_in (k + 1) (g.more x)) (chunk_placed g header rows at o (k + 1) (Some (k + 1)) xs fs))

-- Their parts.

part_in : (q : ℕ) (slots : List Slot) (rest : List LocatedFields) → part q (goes_on_in q slots rest) ≡ fields_of slots ++ part q rest
part_in q [] rest = refl
part_in q (s ∷ ss) rest = one s.0 s.1 (fields_of ss) (goes_on_in q ss rest) (part_in q ss rest)
  where
    one : (tag : ℕ) (o : Option (List ℕ)) (fs : List Entry) (ps : List LocatedFields) → part q ps ≡ fs ++ part q rest → part q (with_placed tag o (InPart q) ps) ≡ with_slot tag o fs ++ part q rest
    one tag None fs ps e = e
    one tag (Some bytes) fs ps e = let test : (q == q) ≡ true = grind (arith, nat_tests) in rw (test, e) refl

part_out : (q k : ℕ) (slots : List Slot) (rest : List LocatedFields) → (k == q) ≡ false → part q (goes_on_in k slots rest) ≡ part q rest
part_out q k [] rest h = refl
part_out q k (s ∷ ss) rest h = one s.0 s.1 (goes_on_in k ss rest) (part_out q k ss rest h)
  where
    one : (tag : ℕ) (o : Option (List ℕ)) (ps : List LocatedFields) → part q ps ≡ part q rest → part q (with_placed tag o (InPart k) ps) ≡ part q rest
    one tag None ps e = e
    one tag (Some bytes) ps e = rw h e

-- an earlier part has none of their fields
pub part_low : {X : Type 0} (g : GroupOf X) (q k : ℕ) (xs : List X) (rest : List LocatedFields) → q ≤ k → part q (chunk g k xs rest) ≡ part q rest
part_low g q k [] rest h = refl
part_low g q k (x ∷ xs) rest h =
    let test : (k + 1 == q) ≡ false = grind (arith, nat_tests, h) in
    rw test (part_out q (k + 1) (g.more x) (chunk g (k + 1) xs rest) test ∙ part_low g q (k + 1) xs rest (omega (arith, h)))

pub part_here : {X : Type 0} (g : GroupOf X) (k : ℕ) (x : X) (xs : List X) (rest : List LocatedFields) → part (k + 1) (chunk g k (x ∷ xs) rest) ≡ fields_of (slots_of g x) ++ part (k + 1) rest
part_here g k x xs rest =
    let test : (k + 1 == k + 1) ≡ true = grind (arith, nat_tests) in
    rw test (ap (λ (l : List Entry). (g.first, g.value x) ∷ l)
    (part_in (k + 1) (g.more x) (chunk g (k + 1) xs rest) ∙ ap (λ (l : List Entry). fields_of (g.more x) ++ l) (part_low g (k + 1) (k + 1) xs rest (omega arith))))

pub part_later : {X : Type 0} (g : GroupOf X) (q k : ℕ) (x : X) (xs : List X) (rest : List LocatedFields) → (k + 1 == q) ≡ false → part q (chunk g k (x ∷ xs) rest) ≡ part q (chunk g (k + 1) xs rest)
part_later g q k x xs rest test = rw test (part_out q (k + 1) (g.more x) (chunk g (k + 1) xs rest) test)

-- the parts of the instances are free after them
abbrev pub AreFree : ℕ → ℕ → List LocatedFields → Type 0
AreFree k n rest = (q : ℕ) → k < q → q ≤ k + n → part q rest ≡ []

free_later : (k n : ℕ) (rest : List LocatedFields) → AreFree k (1 + n) rest → AreFree (k + 1) n rest
free_later k n rest h q a b = h q (omega (arith, a)) (omega (arith, b))

pub chunk_single : {X : Type 0} (g : GroupOf X) (k : ℕ) (xs : List X) (rest : List LocatedFields) → ((x : X) → are_distinct (slots_of g x) ≡ true) → AreFree k (length xs) rest
    → (q : ℕ) → are_single (part q rest) ≡ true → are_single (part q (chunk g k xs rest)) ≡ true
chunk_single g k [] rest d free q h = h
chunk_single g k (x ∷ xs) rest d free q h =
    elim (cases_eq (k + 1) q) [
      | inl same ↦
          subst (λ (n : ℕ). are_single (part n (chunk g k (x ∷ xs) rest)) ≡ true) same
          (let none : part (k + 1) rest ≡ [] = free (k + 1) (omega arith) (omega arith) in
          subst (λ (l : List Entry). are_single l ≡ true) (sym (part_here g k x xs rest ∙ ap (λ (l : List Entry). fields_of (slots_of g x) ++ l) none ∙ append-nil (fields_of (slots_of g x))))
          (single_fields (slots_of g x) (d x)))
      | inr other ↦
          let test : (k + 1 == q) ≡ false = grind (arith, nat_tests) in
          subst (λ (l : List Entry). are_single l ≡ true) (sym (part_later g q k x xs rest test))
          (chunk_single g (k + 1) xs rest d (free_later k (length xs) rest (λ p a b. free p a (omega (arith, b)))) q h)
    ]

-- a later part has none of their fields
pub part_high : {X : Type 0} (g : GroupOf X) (q k : ℕ) (xs : List X) (rest : List LocatedFields) → k + length xs < q → part q (chunk g k xs rest) ≡ part q rest
part_high g q k [] rest h = refl
part_high g q k (x ∷ xs) rest h =
    part_later g q k x xs rest (grind (arith, nat_tests, h)) ∙ part_high g q (k + 1) xs rest (omega (arith, h))

-- Their beginnings.

begins_passed : (first around q : ℕ) (slots : List Slot) (rest : List LocatedFields) → begins first around (goes_on_in q slots rest) ≡ begins first around rest
begins_passed first around q [] rest = refl
begins_passed first around q (s ∷ ss) rest = one s.0 s.1 (goes_on_in q ss rest) (begins_passed first around q ss rest)
  where
    one : (tag : ℕ) (o : Option (List ℕ)) (ps : List LocatedFields) → begins first around ps ≡ begins first around rest → begins first around (with_placed tag o (InPart q) ps) ≡ begins first around rest
    one tag None ps e = e
    one tag (Some bytes) ps e = e

pub chunk_begins : {X : Type 0} (g : GroupOf X) (k : ℕ) (xs : List X) (rest : List LocatedFields) → begins g.first g.around (chunk g k xs rest) ≡ upto k xs ++ begins g.first g.around rest
chunk_begins g k [] rest = refl
chunk_begins g k (x ∷ xs) rest =
    let tag : (g.first == g.first) ≡ true = grind (arith, nat_tests) in
    let place : (g.around == g.around) ≡ true = grind (arith, nat_tests) in
    rw (tag, place) (ap (λ (l : List ℕ). (k + 1) ∷ l) (begins_passed g.first g.around (k + 1) (g.more x) (chunk g (k + 1) xs rest) ∙ chunk_begins g (k + 1) xs rest))

and_false : (a b : Bool) → a ≡ false → (a && b) ≡ false
and_false a b h = rw h refl

pub other_begins : {X : Type 0} (g : GroupOf X) (first around k : ℕ) (xs : List X) (rest : List LocatedFields) → (g.first == first) ≡ false → begins first around (chunk g k xs rest) ≡ begins first around rest
other_begins g first around k [] rest h = refl
other_begins g first around k (x ∷ xs) rest h =
    rw (and_false (g.first == first) (g.around == around) h)
    (begins_passed first around (k + 1) (g.more x) (chunk g (k + 1) xs rest) ∙ other_begins g first around (k + 1) xs rest h)

-- No instance lacks a tag.

lacking_passed : (first tag q : ℕ) (slots : List Slot) (rest : List LocatedFields) → lacking first tag (goes_on_in q slots rest) ≡ lacking first tag rest
lacking_passed first tag q [] rest = refl
lacking_passed first tag q (s ∷ ss) rest = one s.0 s.1 (goes_on_in q ss rest) (lacking_passed first tag q ss rest)
  where
    one : (t : ℕ) (o : Option (List ℕ)) (ps : List LocatedFields) → lacking first tag ps ≡ lacking first tag rest → lacking first tag (with_placed t o (InPart q) ps) ≡ lacking first tag rest
    one t None ps e = e
    one t (Some bytes) ps e = e

nothing_lacks : (a b c : Bool) → b ≡ true → c ≡ false → ((a && not b) || c) ≡ false
nothing_lacks true b c h k = rw (h, k) refl
nothing_lacks false b c h k = k

or_true : (a b : Bool) → a ≡ true → (a || b) ≡ true
or_true a b h = rw h refl

pub chunk_lacking : {X : Type 0} (g : GroupOf X) (tag k : ℕ) (xs : List X) (rest : List LocatedFields) → ((x : X) → has_tag tag (fields_of (slots_of g x)) ≡ true)
    → lacking g.first tag rest ≡ false → lacking g.first tag (chunk g k xs rest) ≡ false
chunk_lacking g tag k [] rest d h = h
chunk_lacking g tag k (x ∷ xs) rest d h =
    let found : has_tag tag (part (k + 1) (chunk g k (x ∷ xs) rest)) ≡ true =
    ap (has_tag tag) (part_here g k x xs rest) ∙ has_tag_append tag (fields_of (slots_of g x)) (part (k + 1) rest) ∙ or_true _ _ (d x) in
    nothing_lacks (g.first == g.first) (has_tag tag (part (k + 1) (chunk g k (x ∷ xs) rest))) _ found
    (lacking_passed g.first tag (k + 1) (g.more x) (chunk g (k + 1) xs rest) ∙ chunk_lacking g tag (k + 1) xs rest d h)

other_here : (a b c : Bool) → a ≡ false → c ≡ false → ((a && b) || c) ≡ false
other_here a b c h k = rw (h, k) refl

pub other_lacking : {X : Type 0} (g : GroupOf X) (first tag k : ℕ) (xs : List X) (rest : List LocatedFields) → (g.first == first) ≡ false → lacking first tag rest ≡ false → lacking first tag (chunk g k xs rest) ≡ false
other_lacking g first tag k [] rest d h = h
other_lacking g first tag k (x ∷ xs) rest d h =
    other_here (g.first == first) (not (has_tag tag (part (k + 1) (chunk g k (x ∷ xs) rest)))) _ d
    (lacking_passed first tag (k + 1) (g.more x) (chunk g (k + 1) xs rest) ∙ other_lacking g first tag (k + 1) xs rest d h)

-- None of their fields is a count.

pub passed_counted : (rows : List Row) (all : List LocatedFields) (q : ℕ) (slots : List Slot) (rest : List LocatedFields) → are_plain rows slots → miscounted rows all (goes_on_in q slots rest) ≡ miscounted rows all rest
passed_counted rows all q [] rest h = refl
passed_counted rows all q (s ∷ ss) rest h = one s.0 s.1 (goes_on_in q ss rest) h.0 (passed_counted rows all q ss rest h.1)
  where
    one : (tag : ℕ) (o : Option (List ℕ)) (ps : List LocatedFields) → is_count tag rows ≡ false → miscounted rows all ps ≡ miscounted rows all rest → miscounted rows all (with_placed tag o (InPart q) ps) ≡ miscounted rows all rest
    one tag None ps k e = e
    one tag (Some bytes) ps k e = rw k e

pub chunk_counted : {X : Type 0} (g : GroupOf X) (rows : List Row) (all : List LocatedFields) (k : ℕ) (xs : List X) (rest : List LocatedFields) → ((x : X) → are_plain rows (slots_of g x))
    → miscounted rows all (chunk g k xs rest) ≡ miscounted rows all rest
chunk_counted g rows all k [] rest d = refl
chunk_counted g rows all k (x ∷ xs) rest d =
    let test = (d x).0 in
    rw test (passed_counted rows all (k + 1) (g.more x) (chunk g (k + 1) xs rest) (d x).1 ∙ chunk_counted g rows all (k + 1) xs rest d)

-- Nothing occurs twice where no part has a tag twice.

single_split : (f : Entry) (before behind : List Entry) → are_single (before ++ f ∷ behind) ≡ true → has_tag f.0 before ≡ false
single_split f [] behind h = refl
single_split f (g ∷ gs) behind h =
    let parts = both_true (not (has_tag g.0 (gs ++ f ∷ behind))) (are_single (gs ++ f ∷ behind)) h in
    let none : has_tag g.0 (gs ++ f ∷ behind) ≡ false = not_true _ parts.0 in
    let others = either_false (has_tag g.0 gs) (has_tag g.0 (f ∷ behind)) (sym (has_tag_append g.0 gs (f ∷ behind)) ∙ none) in
    let here = either_false (f.0 == g.0) (has_tag g.0 behind) others.1 in
    neither_tag (g.0 == f.0) (has_tag f.0 gs) (grind (arith, nat_tests, here.0)) (single_split f gs behind parts.1)
  where
    neither_tag : (a b : Bool) → a ≡ false → b ≡ false → (a || b) ≡ false
    neither_tag a b h k = rw (h, k) refl

part_append : (q : ℕ) (ps others : List LocatedFields) → part q (ps ++ others) ≡ part q ps ++ part q others
part_append q [] others = refl
part_append q (p ∷ ps) others = kept (is_in q p.1) p.0 (part q ps) (part q others) (part q (ps ++ others)) (part_append q ps others)
  where
    kept : (b : Bool) (f : Entry) (fs gs all : List Entry) → all ≡ fs ++ gs → cond b (f ∷ all) all ≡ cond b (f ∷ fs) fs ++ gs
    kept true f fs gs all e = ap (λ (l : List Entry). f ∷ l) e
    kept false f fs gs all e = e

new_in : (q : ℕ) (f : Entry) (position : FieldPosition) (earlier ps : List LocatedFields) → is_in q position ≡ true → are_single (part q (earlier ++ (f, position) ∷ ps)) ≡ true → has_tag f.0 (part q earlier) ≡ false
new_in q f position earlier ps h s =
    let split : part q (earlier ++ (f, position) ∷ ps) ≡ part q earlier ++ f ∷ part q ps = part_append q earlier ((f, position) ∷ ps) ∙ rw h refl in
    single_split f (part q earlier) (part q ps) (subst (λ (l : List Entry). are_single l ≡ true) split s)

not_repeated : (f : Entry) (position : FieldPosition) (earlier ps : List LocatedFields) → ((q : ℕ) → are_single (part q (earlier ++ (f, position) ∷ ps)) ≡ true) → repeats f.0 position earlier ≡ false
not_repeated f Unknown earlier ps h = refl
not_repeated f (InPart q) earlier ps h = new_in q f (InPart q) earlier ps (grind (arith, nat_tests)) (h q)
not_repeated f (Begins q around) earlier ps h = new_in q f (Begins q around) earlier ps (grind (arith, nat_tests)) (h q)
not_repeated f (Misplaced q) earlier ps h = new_in q f (Misplaced q) earlier ps (grind (arith, nat_tests)) (h q)

none_twice_behind : (earlier ps : List LocatedFields) → ((q : ℕ) → are_single (part q (earlier ++ ps)) ≡ true) → twice earlier ps ≡ None
none_twice_behind earlier [] h = refl
none_twice_behind earlier (p ∷ ps) h =
    rw (not_repeated p.0 p.1 earlier ps h)
    (none_twice_behind (earlier ++ p ∷ []) ps (λ q. subst (λ (l : List LocatedFields). are_single (part q l) ≡ true) (sym (append_assoc earlier (p ∷ []) ps)) (h q)))

pub none_twice : (ps : List LocatedFields) → ((q : ℕ) → are_single (part q ps) ≡ true) → twice [] ps ≡ None
none_twice ps h = none_twice_behind [] ps h

-- Nothing is missing where each row outside of groups holds, and no instance lacks one of its own.

abbrev pub IsThere : List Row → List LocatedFields → Row → Type 0
IsThere rows ps r = (r.required && is_lacking rows r ps) ≡ false

pub none_missing_in : (rows rs : List Row) (ps : List LocatedFields) → AllByRecursion (IsThere rows ps) rs → missing_in rows rs ps ≡ None
none_missing_in rows [] ps h = refl
none_missing_in rows (r ∷ rs) ps h = rw h.0 (none_missing_in rows rs ps h.1)

pub outside_there : (rows : List Row) (ps : List LocatedFields) (r : Row) → (r.group == 0) ≡ true → RowHolds r (value_of r.tag (part 0 ps)) → IsThere rows ps r
outside_there rows ps r h k = rw h (row_given r (part 0 ps) (value_of r.tag (part 0 ps)) k refl)

pub inside_there : (rows : List Row) (ps : List LocatedFields) (r : Row) → (r.group == 0) ≡ false → lacking (first_tag r.group rows) r.tag ps ≡ false → IsThere rows ps r
inside_there rows ps r h k = rw h (both r.required _ k)
  where
    both : (a b : Bool) → b ≡ false → (a && b) ≡ false
    both true b e = e
    both false b e = refl

pub headed_there : (rows : List Row) (ps : List LocatedFields) (rs : List Row) → AllByRecursion (λ (r : Row). (r.group == 0) ≡ true) rs → Holds rs (part 0 ps) → AllByRecursion (IsThere rows ps) rs
headed_there rows ps [] h k = tt
headed_there rows ps (r ∷ rs) h k = (outside_there rows ps r h.0 k.0, headed_there rows ps rs h.1 k.1)

-- No value has a fault.

abbrev pub AreRight : List Row → List Entry → Type 0
AreRight all fields = AllByRecursion (λ (f : Entry). fault_as (form_of f.0 all) f.1 ≡ None) fields

right_one : (all : List Row) (r : Row) (tag : ℕ) (o : Option (List ℕ)) (fs : List Entry) → tag ≡ r.tag → form_of r.tag all ≡ Some r.form → RowHolds r o → AreRight all fs → AreRight all (with_slot tag o fs)
right_one all r tag None fs e own h k = k
right_one all r tag (Some bytes) fs e own h k = (rw (e, own) h, k)

pub fill_right : (all rs : List Row) (ss : List Slot) → HasOwnForms all rs → Fill rs ss → AreRight all (fields_of ss)
fill_right all [] [] own f = tt
fill_right all [] (s ∷ ss) own f = absurd f
fill_right all (r ∷ rs) [] own f = absurd f
fill_right all (r ∷ rs) (s ∷ ss) own f = right_one all r s.0 s.1 (fields_of ss) f.0 own.0 f.1.0.holds (fill_right all rs ss own.1 f.1.1)

pub right_append : (all : List Row) (fs gs : List Entry) → AreRight all fs → AreRight all gs → AreRight all (fs ++ gs)
right_append all [] gs h k = k
right_append all (f ∷ fs) gs h k = (h.0, right_append all fs gs h.1 k)

pub chunk_right : {X : Type 0} (g : GroupOf X) (all : List Row) (xs : List X) → AllByRecursion (λ (x : X). AreRight all (fields_of (slots_of g x))) xs → AreRight all (fields_of (each_slots (slots_of g) xs))
chunk_right g all [] h = tt
chunk_right g all (x ∷ xs) h =
    subst (AreRight all) (sym (fields_append (slots_of g x) (each_slots (slots_of g) xs)))
    (right_append all (fields_of (slots_of g x)) (fields_of (each_slots (slots_of g) xs)) h.0 (chunk_right g all xs h.1))

pub right_faultless : (fault : ValueFault) (all : List Row) (fields : List Entry) → AreRight all fields → faulty fault all fields ≡ None
right_faultless fault all [] h = refl
right_faultless fault all (f ∷ fs) h =
    let fine : is_fault fault (fault_as (form_of f.0 all) f.1) ≡ false = ap (is_fault fault) h.0 ∙ no_fault fault in
    rw fine (right_faultless fault all fs h.1)

-- The message that they spell.

pub read_back : {X : Type 0} (g : GroupOf X) (read : List Entry → X) → (k : ℕ) (xs : List X) (rest : List LocatedFields) (whole : List LocatedFields) → AllByRecursion (λ (x : X). read (fields_of (slots_of g x)) ≡ x) xs → AreFree k (length xs) rest
    → ((q : ℕ) → k < q → part q whole ≡ part q (chunk g k xs rest)) → map read (map (λ (q : ℕ). part q whole) (upto k xs)) ≡ xs
read_back g read k [] rest whole h free w = refl
read_back {X = X} g read k (x ∷ xs) rest whole h free w =
    let here : part (k + 1) whole ≡ fields_of (slots_of g x) =
    w (k + 1) (omega arith) ∙ part_here g k x xs rest ∙ ap (λ (l : List Entry). fields_of (slots_of g x) ++ l) (free (k + 1) (omega arith) (omega arith)) ∙ append-nil (fields_of (slots_of g x)) in
    let later = read_back g read (k + 1) xs rest whole h.1 (free_later k (length xs) rest (λ p a b. free p a (omega (arith, b))))
    (λ q a. w q (omega (arith, a)) ∙ part_later g q k x xs rest (grind (arith, nat_tests, a))) in
    ap (λ (fs : List Entry). read fs ∷ map read (map (λ (q : ℕ). part q whole) (upto (k + 1) xs))) here
    ∙ ap (λ (y : X). y ∷ map read (map (λ (q : ℕ). part q whole) (upto (k + 1) xs))) h.0
    ∙ ap (λ (l : List X). x ∷ l) later

-- They are fields, and short.

pub fields_both : (fs gs : List Entry) → AreFields fs → AreFields gs → AreFields (fs ++ gs)
fields_both [] gs h k = k
fields_both (f ∷ fs) gs h k = (h.0, fields_both fs gs h.1 k)

pub chunk_fields : {X : Type 0} (g : GroupOf X) (xs : List X) → AllByRecursion (λ (x : X). AreFields (fields_of (slots_of g x))) xs → AreFields (fields_of (each_slots (slots_of g) xs))
chunk_fields g [] h = tt
chunk_fields g (x ∷ xs) h =
    subst AreFields (sym (fields_append (slots_of g x) (each_slots (slots_of g) xs)))
    (fields_both (fields_of (slots_of g x)) (fields_of (each_slots (slots_of g) xs)) h.0 (chunk_fields g xs h.1))

pub slots_length : (ss more : List Slot) → length (slots_text (ss ++ more)) ≡ length (slots_text ss) + length (slots_text more)
slots_length ss more = ap (λ (l : List ℕ). length l) (slots_text_append ss more) ∙ length-append (slots_text ss) (slots_text more)

pub chunk_length : {X : Type 0} (g : GroupOf X) (n : ℕ) (xs : List X) → AllByRecursion (λ (x : X). length (slots_text (slots_of g x)) ≤ n) xs → length (slots_text (each_slots (slots_of g) xs)) ≤ length xs * n
chunk_length g n [] h = omega arith
chunk_length g n (x ∷ xs) h = omega (arith, slots_length (slots_of g x) (each_slots (slots_of g) xs), chunk_length g n xs h.1, h.0)

-- All together: slots outside of groups, and the fields after them.

pub outside_part : (outs : List Slot) (tail : List LocatedFields) (post : List Slot) → part 0 tail ≡ fields_of post → part 0 (at_zero (fields_of outs) tail) ≡ fields_of (outs ++ post)
outside_part outs tail post h = zero_part (fields_of outs) tail ∙ ap (λ (l : List Entry). fields_of outs ++ l) h ∙ sym (fields_append outs post)

pub all_single : (outs : List Slot) (tail : List LocatedFields) (post : List Slot) → part 0 tail ≡ fields_of post → are_distinct (outs ++ post) ≡ true
    → ((q : ℕ) → (0 == q) ≡ false → are_single (part q tail) ≡ true) → (q : ℕ) → are_single (part q (at_zero (fields_of outs) tail)) ≡ true
all_single outs tail post h d others q =
    elim (cases_eq 0 q) [
      | inl same ↦
          subst (λ (n : ℕ). are_single (part n (at_zero (fields_of outs) tail)) ≡ true) same
          (subst (λ (l : List Entry). are_single l ≡ true) (sym (outside_part outs tail post h)) (single_fields (outs ++ post) d))
      | inr other ↦
          let test : (0 == q) ≡ false = grind (arith, nat_tests) in
          subst (λ (l : List Entry). are_single l ≡ true) (sym (other_part q (fields_of outs) tail test)) (others q test)
    ]

pub faultless_placed : (header rows : List Row) (ps : List LocatedFields) (fields : List Entry) → twice [] ps ≡ None → miscounted rows ps ps ≡ None → missing_in rows header ps ≡ None → missing_in rows rows ps ≡ None
    → AreRight (header ++ rows) fields → located_fault header rows ps fields ≡ None
unfolding located_fault
faultless_placed header rows ps fields a b c d e = rw (a, b, c, d, right_faultless value.Format (header ++ rows) fields e, right_faultless value.Range (header ++ rows) fields e) refl

zero_zero : (fs gs : List Entry) (rest : List LocatedFields) → at_zero fs (at_zero gs rest) ≡ at_zero (fs ++ gs) rest
zero_zero [] gs rest = refl
zero_zero (f ∷ fs) gs rest = ap (λ (l : List LocatedFields). (f, InPart 0) ∷ l) (zero_zero fs gs rest)

pub split_zero : (hs outs : List Slot) (tail : List LocatedFields) → at_zero (fields_of (hs ++ outs)) tail ≡ at_zero (fields_of hs) (at_zero (fields_of outs) tail)
split_zero hs outs tail = ap (λ (l : List Entry). at_zero l tail) (fields_append hs outs) ∙ sym (zero_zero (fields_of hs) (fields_of outs) tail)

pub grouped_placed : (header rows : List Row) (hs outs own : List Slot) (tail : List LocatedFields) → are_header header hs → located header rows start (fields_of own) ≡ at_zero (fields_of outs) tail
    → located header rows start (fields_of (hs ++ own)) ≡ at_zero (fields_of (hs ++ outs)) tail
grouped_placed header rows hs outs own tail h e =
    ap (located header rows start) (fields_append hs own) ∙ header_placed header rows start hs (fields_of own) h
    ∙ ap (at_zero (fields_of hs)) e ∙ sym (split_zero hs outs tail)

count_stated : (n b : ℕ) → b ≡ n → n ≤ 1_000 → emits b (decimal n) ≡ true
count_stated n b e h =
    let range : within 0 1_000_000_000_000_000_000 n ≡ Ok n = grind (arith, nat_tests, h) in
    ap (is_read_as b) (integer_in-decimal 0 1_000_000_000_000_000_000 n (omega (arith, h)) ∙ range) ∙ stated_same n b e
  where
    stated_same : (n b : ℕ) → b ≡ n → (n == b) ≡ true
    stated_same n b e = grind (arith, nat_tests, e)

counts_pass : (t : Bool) (tag : ℕ) (rest : Option ℕ) → t ≡ true → rest ≡ None → or_next (cond (not t) (Some tag) None) rest ≡ None
counts_pass t tag rest h k = rw (h, k) refl

pub count_fine : (n b tag : ℕ) (rest : Option ℕ) → b ≡ n → n ≤ 1_000 → rest ≡ None → or_next (cond (not (emits b (decimal n))) (Some tag) None) rest ≡ None
count_fine n b tag rest e h k = counts_pass (emits b (decimal n)) tag rest (count_stated n b e h) k

-- Slots outside of groups, where none of them opens a group.

goes_on_zero : (slots : List Slot) (rest : List LocatedFields) → goes_on_in 0 slots rest ≡ at_zero (fields_of slots) rest
goes_on_zero [] rest = refl
goes_on_zero (s ∷ ss) rest = one s.0 s.1 (fields_of ss) (goes_on_in 0 ss rest) (goes_on_zero ss rest)
  where
    one : (tag : ℕ) (o : Option (List ℕ)) (fs : List Entry) (ps : List LocatedFields) → ps ≡ at_zero fs rest → with_placed tag o (InPart 0) ps ≡ at_zero (with_slot tag o fs) rest
    one tag None fs ps e = e
    one tag (Some bytes) fs ps e = ap (λ (l : List LocatedFields). ((tag, bytes), InPart 0) ∷ l) e

pub zero_placed : (header rows : List Row) (s : State) (slots : List Slot) (fs : List Entry) → AllByRecursion (λ (t : Slot). step header rows s t.0 ≡ record { position = InPart 0; state = s }) slots
    → located header rows s (fields_of slots ++ fs) ≡ at_zero (fields_of slots) (located header rows s fs)
zero_placed header rows s slots fs h = members_placed header rows s 0 slots fs h ∙ goes_on_zero slots (located header rows s fs)

-- One instance.

pub one_lacking : {X : Type 0} (g : GroupOf X) (tag k : ℕ) (x : X) (rest : List LocatedFields) → has_tag tag (fields_of (slots_of g x)) ≡ true → lacking g.first tag rest ≡ false → lacking g.first tag (chunk g k (x ∷ []) rest) ≡ false
one_lacking {X = X} g tag k x rest d h =
    let found : has_tag tag (part (k + 1) (chunk g k (x ∷ []) rest)) ≡ true =
    ap (has_tag tag) (part_here g k x [] rest) ∙ has_tag_append tag (fields_of (slots_of g x)) (part (k + 1) rest) ∙ or_true _ _ d in
    nothing_lacks (g.first == g.first) (has_tag tag (part (k + 1) (chunk g k (x ∷ []) rest))) _ found
    (lacking_passed g.first tag (k + 1) (g.more x) rest ∙ h)

pub one_single : {X : Type 0} (g : GroupOf X) (k : ℕ) (x : X) (rest : List LocatedFields) → are_distinct (slots_of g x) ≡ true → AreFree k 1 rest → (q : ℕ) → are_single (part q rest) ≡ true → are_single (part q (chunk g k (x ∷ []) rest)) ≡ true
one_single {X = X} g k x rest d free q h =
    elim (cases_eq (k + 1) q) [
      | inl same ↦
          subst (λ (n : ℕ). are_single (part n (chunk g k (x ∷ []) rest)) ≡ true) same
          (let none : part (k + 1) rest ≡ [] = free (k + 1) (omega arith) (omega arith) in
          subst (λ (l : List Entry). are_single l ≡ true) (sym (part_here g k x [] rest ∙ ap (λ (l : List Entry). fields_of (slots_of g x) ++ l) none ∙ append-nil (fields_of (slots_of g x))))
          (single_fields (slots_of g x) d))
      | inr other ↦
          let test : (k + 1 == q) ≡ false = grind (arith, nat_tests) in
          subst (λ (l : List Entry). are_single l ≡ true) (sym (part_later g q k x [] rest test)) h
    ]
