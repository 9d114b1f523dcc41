-- Where a table with groups finds no fault, the rows of each part hold, and each count is the number of instances.
use Rattle.std.proofs.Common.{◌≡◌, ℕ, ◌≤◌, true, false, Bool, List, [], ◌∷◌, ◌++◌, refl, sym, ap, subst, ◌∙◌, arith, rules, cond, ◌==◌, ◌&&◌, ◌||◌, not, nat_lt, length, map, append_assoc, Option, Some, None, Ok, Err, Result, inl, inr}
use Rattle.std.specs.List.{AllByRecursion}
use Rattle.std.proofs.lemmas.Bool.Decides.{nat_tests}
use Rattle.std.proofs.lemmas.Bool.{cases_eq}
use Rattle.fix_fields.specs.declared.value.ValueFault.{ValueFault}
use Rattle.fix_fields.specs.declared.value.ValueFault.TheVariants as value
use Rattle.fix_fields.specs.Fields.{Entry, value_of}
use Rattle.std.specs.Char.{is_ascii_digit}
use Rattle.std.specs.List.{list_all}
use Rattle.std.specs.Str.Parse.{digits_value}
use Rattle.fix_fields.specs.Forms.{integer_in, within}
use Rattle.fix_fields.specs.GroupParts.{emits, is_read_as}
use Rattle.fix_validation.specs.declared.table.Form.{Form}
use Rattle.fix_validation.specs.declared.table.Form.TheVariants.{Integer}
use Rattle.fix_validation.specs.declared.table.Row.{Row}
use Rattle.fix_validation.specs.declared.positions.FieldPosition.{FieldPosition}
use Rattle.fix_validation.specs.declared.positions.FieldPosition.TheVariants.{Unknown, InPart, Begins, Misplaced}
use Rattle.fix_validation.specs.declared.positions.State.{State}
use Rattle.fix_validation.specs.Table.{value_fault, why, needs}
use Rattle.fix_decoder.proofs.BoundLemmas.{ok_then, within_test, integer_bound}
use Rattle.fix_validation.specs.Faults.{form_of, has_tag, faulty, fault_as}
use Rattle.fix_validation.specs.Positions.{LocatedFields, first_tag, is_count, located, step, start, is_in, part, begins, with_begin, sole, first_of}
use Rattle.fix_validation.specs.GroupFaults.{miscounted, is_wrong, or_next, lacks, lacking, is_lacking, missing_in, located_fault}
use Rattle.fix_validation.specs.GroupHolding.{members, Clean, EachHolds}
use Rattle.fix_validation.specs.Holding.{RowHolds, Holds}
use Rattle.fix_decoder.proofs.HoldLemmas.{HasOwnForms, or_else_none, cond_none, neither, absent, not_required, some_not_none}
use Rattle.fix_decoder.proofs.LookLemmas.{has_tag_append}

pub map_all : {X : Type 0} (P Q : X → Type 0) → ((x : X) → P x → Q x) → (xs : List X) → AllByRecursion P xs → AllByRecursion Q xs
map_all P Q f [] h = tt
map_all P Q f (x ∷ xs) h = (f x h.0, map_all P Q f xs h.1)

-- no value has a fault
abbrev IsRight : List Row → Entry → Type 0
IsRight all f = fault_as (form_of f.0 all) f.1 ≡ None

abbrev AreRight : List Row → List Entry → Type 0
AreRight all fields = AllByRecursion (IsRight all) fields

right_fields : (all : List Row) (fields : List Entry) → faulty value.Format all fields ≡ None → faulty value.Range all fields ≡ None → AreRight all fields
right_fields all [] h k = tt
right_fields all (f ∷ fs) h k =
    let a = cond_none _ _ _ h in
    let b = cond_none _ _ _ k in
    (neither _ a.0 b.0, right_fields all fs a.1 b.1)

right_placed : (all header rows : List Row) (s : State) (fields : List Entry) → AreRight all fields
    → AllByRecursion (λ (p : LocatedFields). fault_as (form_of p.0.0 all) p.0.1 ≡ None) (located header rows s fields)
right_placed all header rows s [] h = tt
right_placed all header rows s (f ∷ fs) h = (h.0, right_placed all header rows (step header rows s f.0).state fs h.1)

pub clean : (header rows : List Row) (fields : List Entry) → located_fault header rows (located header rows start fields) fields ≡ None → Clean header rows (located header rows start fields)
unfolding located_fault
clean header rows fields h =
    let a = or_else_none _ _ _ h in
    let b = or_else_none _ _ _ a.1 in
    let c = or_else_none _ _ _ b.1 in
    let d = or_else_none _ _ _ c.1 in
    let e = or_else_none _ _ _ d.1 in
    let f = or_else_none _ _ _ e.1 in
    record { counted = b.0; headed = c.0; present = d.0; right = right_placed (header ++ rows) header rows start fields (right_fields (header ++ rows) fields e.0 f.0) }

kept_right : (all : List Row) (b : Bool) (f : Entry) (fs : List Entry) → IsRight all f → AreRight all fs → AreRight all (cond b (f ∷ fs) fs)
kept_right all true f fs h k = (h, k)
kept_right all false f fs h k = k

right_part : (all : List Row) (q : ℕ) (ps : List LocatedFields) → AllByRecursion (λ (p : LocatedFields). fault_as (form_of p.0.0 all) p.0.1 ≡ None) ps → AreRight all (part q ps)
right_part all q [] h = tt
right_part all q (p ∷ ps) h = kept_right all (is_in q p.1) p.0 (part q ps) h.0 (right_part all q ps h.1)

value_right : (all : List Row) (fields : List Entry) → AreRight all fields → (tag : ℕ) (bytes : List ℕ) → value_of tag fields ≡ Some bytes → fault_as (form_of tag all) bytes ≡ None
value_right all [] h tag bytes e = absurd (some_not_none bytes (sym e))
value_right all (f ∷ fs) h tag bytes e =
    elim (cases_eq f.0 tag) [
      | inl same ↦
          let test : (f.0 == tag) ≡ true = grind (arith, nat_tests) in
          let value : Some f.1 ≡ Some bytes = rw test at e in
          let bytes_same : f.1 ≡ bytes = search (value, rules) in
          rw (← same, ← bytes_same) h.0
      | inr other ↦
          let test : (f.0 == tag) ≡ false = grind (arith, nat_tests) in
          value_right all fs h.1 tag bytes (rw test at e)
    ]

row_holds : (all : List Row) (fields : List Entry) → AreRight all fields → (r : Row) → form_of r.tag all ≡ Some r.form
    → (r.required && not (has_tag r.tag fields)) ≡ false → (o : Option (List ℕ)) → value_of r.tag fields ≡ o → RowHolds (record { tag = r.tag; required = r.required; form = r.form; group = 0 }) o
row_holds all fields h r own given None e = not_required _ _ given (absent r.tag fields e)
row_holds all fields h r own given (Some bytes) e =
    ap (λ (form : Option Form). fault_as form bytes) (sym own) ∙ value_right all fields h r.tag bytes e

-- a row of the group has a field, if it is required
abbrev IsGiven : ℕ → List Entry → Row → Type 0
IsGiven g fields r = (r.group == g) ≡ true → (r.required && not (has_tag r.tag fields)) ≡ false

kept_holds : (b : Bool) (r : Row) (rs : List Row) (fields : List Entry) → (b ≡ true → RowHolds r (value_of r.tag fields)) → Holds rs fields → Holds (cond b (r ∷ rs) rs) fields
kept_holds true r rs fields h k = (h refl, k)
kept_holds false r rs fields h k = k

members_hold : (all : List Row) (fields : List Entry) → AreRight all fields → (g : ℕ) (rs : List Row) → HasOwnForms all rs → AllByRecursion (IsGiven g fields) rs → Holds (members g rs) fields
members_hold all fields h g [] own given = tt
members_hold all fields h g (r ∷ rs) own given =
    kept_holds (r.group == g) (record { tag = r.tag; required = r.required; form = r.form; group = 0 }) (members g rs) fields
    (λ e. row_holds all fields h r own.0 (given.0 e) _ refl) (members_hold all fields h g rs own.1 given.1)

-- Outside of groups.

outside_given : (rows rs : List Row) (ps : List LocatedFields) → missing_in rows rs ps ≡ None → AllByRecursion (IsGiven 0 (part 0 ps)) rs
outside_given rows [] ps h = tt
outside_given rows (r ∷ rs) ps h =
    let none = cond_none (r.required && is_lacking rows r ps) r.tag (missing_in rows rs ps) h in
    (one none.0, outside_given rows rs ps none.1)
  where
    one : (r.required && is_lacking rows r ps) ≡ false → IsGiven 0 (part 0 ps) r
    one k e = rw e at k

pub outside_holds : (header rows : List Row) (ps : List LocatedFields) → Clean header rows ps → HasOwnForms (header ++ rows) header → Holds (members 0 header) (part 0 ps)
outside_holds header rows ps c own =
    members_hold (header ++ rows) (part 0 ps) (right_part (header ++ rows) 0 ps c.right) 0 header own (outside_given rows header ps c.headed)

pub flat_holds : (header rows : List Row) (ps : List LocatedFields) → Clean header rows ps → HasOwnForms (header ++ rows) rows → Holds (members 0 rows) (part 0 ps)
flat_holds header rows ps c own =
    members_hold (header ++ rows) (part 0 ps) (right_part (header ++ rows) 0 ps c.right) 0 rows own (outside_given rows rows ps c.present)

-- In the instances of a group.

-- no instance lacks the row, if it is one of the group and required
abbrev IsNowhereLacking : ℕ → ℕ → List LocatedFields → Row → Type 0
IsNowhereLacking g first ps r = (r.group == g) ≡ true → (r.required && lacking first r.tag ps) ≡ false

group_given : (rows : List Row) (g : ℕ) → (g == 0) ≡ false → (rs : List Row) (ps : List LocatedFields) → missing_in rows rs ps ≡ None → AllByRecursion (IsNowhereLacking g (first_tag g rows) ps) rs
group_given rows g some [] ps h = tt
group_given rows g some (r ∷ rs) ps h =
    let none = cond_none (r.required && is_lacking rows r ps) r.tag (missing_in rows rs ps) h in
    (one none.0, group_given rows g some rs ps none.1)
  where
    one : (r.required && is_lacking rows r ps) ≡ false → IsNowhereLacking g (first_tag g rows) ps r
    one k e =
        let same : r.group ≡ g = grind (arith, nat_tests, e) in
        let test : (r.group == 0) ≡ false = rw same some in
        let more : (r.required && lacking (first_tag r.group rows) r.tag ps) ≡ false = rw test at k in
        rw same at more

and_or_false : (a b c : Bool) → (a && (b || c)) ≡ false → ((a && b) ≡ false) × ((a && c) ≡ false)
and_or_false true true c h = absurd (search (h, rules))
and_or_false true false c h = (refl, h)
and_or_false false b c h = (refl, refl)

and_false_right : (a b c : Bool) → (a && b) ≡ false → (b ≡ false → c ≡ false) → (a && c) ≡ false
and_false_right true b c h k = k h
and_false_right false b c h k = refl

not_or : (a b : Bool) → not b ≡ false → not (a || b) ≡ false
not_or true b h = refl
not_or false b h = h

part_append : (q : ℕ) (ps others : List LocatedFields) → part q (ps ++ others) ≡ part q ps ++ part q others
part_append q [] others = refl
part_append q (p ∷ ps) others = kept (is_in q p.1) p.0 (part q ps) (part q others) (part q (ps ++ others)) (part_append q ps others)
  where
    kept : (b : Bool) (f : Entry) (fs gs all : List Entry) → all ≡ fs ++ gs → cond b (f ∷ all) all ≡ cond b (f ∷ fs) fs ++ gs
    kept true f fs gs all e = ap (λ (l : List Entry). f ∷ l) e
    kept false f fs gs all e = e

-- the fields of a part from some field on are fields of the part
given_onwards : (q tag : ℕ) (before onwards : List LocatedFields) → not (has_tag tag (part q onwards)) ≡ false → not (has_tag tag (part q (before ++ onwards))) ≡ false
given_onwards q tag before onwards h =
    rw (part_append q before onwards, has_tag_append tag (part q before) (part q onwards))
    (not_or (has_tag tag (part q before)) (has_tag tag (part q onwards)) h)

-- the fields of an instance that begins here
begun_given : (g first begin q around : ℕ) (f : Entry) (before ps : List LocatedFields) (r : Row) → ((f.0 == first) && (around == begin)) ≡ true
    → IsNowhereLacking g first ((f, Begins q around) ∷ ps) r → IsGiven g (part q (before ++ (f, Begins q around) ∷ ps)) r
begun_given g first begin q around f before ps r t h e =
    let onwards : List LocatedFields = (f, Begins q around) ∷ ps in
    let here = and_or_false r.required (lacks first r.tag f.0 (Begins q around) onwards) (lacking first r.tag ps) (h e) in
    and_false_right r.required _ (not (has_tag r.tag (part q (before ++ onwards)))) here.0
    (λ k. given_onwards q r.tag before onwards (only (f.0 == first) (around == begin) _ t k))
  where
    only : (a b c : Bool) → (a && b) ≡ true → (a && c) ≡ false → c ≡ false
    only true b c h k = k
    only false b c h k = absurd (search (h, rules))

later : (g first : ℕ) (p : LocatedFields) (ps : List LocatedFields) (r : Row) → IsNowhereLacking g first (p ∷ ps) r → IsNowhereLacking g first ps r
later g first p ps r h e = (and_or_false r.required (lacks first r.tag p.0.0 p.1 (p ∷ ps)) (lacking first r.tag ps) (h e)).1

kept_each : (b : Bool) (P : ℕ → Type 0) (q : ℕ) (qs : List ℕ) → (b ≡ true → P q) → AllByRecursion P qs → AllByRecursion P (cond b (q ∷ qs) qs)
kept_each true P q qs h k = (h refl, k)
kept_each false P q qs h k = k

each_from : (all rows : List Row) (whole : List LocatedFields) → AllByRecursion (λ (p : LocatedFields). fault_as (form_of p.0.0 all) p.0.1 ≡ None) whole → HasOwnForms all rows → (g first begin : ℕ)
    → (before ps : List LocatedFields) → before ++ ps ≡ whole → AllByRecursion (IsNowhereLacking g first ps) rows
    → AllByRecursion (λ (q : ℕ). Holds (members g rows) (part q whole)) (begins first begin ps)
each_from all rows whole right own g first begin before [] e h = tt
each_from all rows whole right own g first begin before ((f, position) ∷ ps) e h =
    at position e h
    (each_from all rows whole right own g first begin (before ++ (f, position) ∷ []) ps (append_assoc before ((f, position) ∷ []) ps ∙ e)
    (map_all (IsNowhereLacking g first ((f, position) ∷ ps)) (IsNowhereLacking g first ps) (later g first (f, position) ps) rows h))
  where
    at : (s : FieldPosition) → before ++ (f, s) ∷ ps ≡ whole → AllByRecursion (IsNowhereLacking g first ((f, s) ∷ ps)) rows
        → AllByRecursion (λ (q : ℕ). Holds (members g rows) (part q whole)) (begins first begin ps)
        → AllByRecursion (λ (q : ℕ). Holds (members g rows) (part q whole)) (with_begin first begin f.0 s (begins first begin ps))
    at Unknown e h k = k
    at (InPart q) e h k = k
    at (Misplaced q) e h k = k
    at (Begins q around) e h k =
        kept_each ((f.0 == first) && (around == begin)) (λ (q : ℕ). Holds (members g rows) (part q whole)) q (begins first begin ps)
        (λ t. members_hold all (part q whole) (right_part all q whole right) g rows own
        (subst (λ (l : List LocatedFields). AllByRecursion (IsGiven g (part q l)) rows) e
        (map_all (IsNowhereLacking g first ((f, Begins q around) ∷ ps)) (IsGiven g (part q (before ++ (f, Begins q around) ∷ ps)))
        (λ r. begun_given g first begin q around f before ps r t) rows h))) k

pub each_holds : (header rows : List Row) (ps : List LocatedFields) → Clean header rows ps → HasOwnForms (header ++ rows) rows → (g : ℕ) → (g == 0) ≡ false → (around : ℕ) → EachHolds (members g rows) (first_tag g rows) around ps
each_holds header rows ps c own g some around =
    each_from (header ++ rows) rows ps c.right own g (first_tag g rows) around [] ps refl (group_given rows g some rows ps c.present)

-- Counts.

next_none : (a b : Option ℕ) → or_next a b ≡ None → (a ≡ None) × (b ≡ None)
next_none None b h = (refl, h)
next_none (Some tag) b h = absurd (some_not_none tag h)

not_wrong : (a b : Bool) → (a && not b) ≡ false → a ≡ true → b ≡ true
not_wrong true true h k = refl
not_wrong true false h k = absurd (search (h, rules))
not_wrong false b h k = absurd (search (k, rules))

counted_here : (rows : List Row) (all : List LocatedFields) (g q k : ℕ) (f : Entry) (bytes : List ℕ) (rest : Option (List ℕ)) → is_count g rows ≡ true
    → cond (is_wrong rows all k f.0 f.1) (Some f.0) None ≡ None → (rest ≡ Some bytes → emits (length (begins (first_tag g rows) q all)) bytes ≡ true)
    → (fs : List Entry) → value_of g fs ≡ rest → value_of g (cond (k == q) (f ∷ fs) fs) ≡ Some bytes → emits (length (begins (first_tag g rows) q all)) bytes ≡ true
counted_here rows all g q k f bytes rest count right later fs e h =
    elim (cases_eq k q) [
      | inr other ↦ let test : (k == q) ≡ false = grind (arith, nat_tests) in later (sym e ∙ (rw test at h))
      | inl same ↦
          let test : (k == q) ≡ true = grind (arith, nat_tests) in
          let found : value_of g (f ∷ fs) ≡ Some bytes = rw test at h in
          elim (cases_eq f.0 g) [
            | inr different ↦ let tag_test : (f.0 == g) ≡ false = grind (arith, nat_tests) in later (sym e ∙ (rw tag_test at found))
            | inl alike ↦
                let tag_test : (f.0 == g) ≡ true = grind (arith, nat_tests) in
                let value : Some f.1 ≡ Some bytes = rw tag_test at found in
                let bytes_same : f.1 ≡ bytes = search (value, rules) in
                let wrong : is_wrong rows all k f.0 f.1 ≡ false = (cond_none _ _ _ right).0 in
                let fine : is_wrong rows all q g bytes ≡ false = rw (same, alike, bytes_same) at wrong in
                not_wrong (is_count g rows) _ fine count
          ]
    ]

counted_in : (rows : List Row) (all : List LocatedFields) (g q : ℕ) (bytes : List ℕ) → is_count g rows ≡ true → (ps : List LocatedFields) → miscounted rows all ps ≡ None
    → value_of g (part q ps) ≡ Some bytes → emits (length (begins (first_tag g rows) q all)) bytes ≡ true
counted_in rows all g q bytes count [] h e = absurd (some_not_none bytes (sym e))
counted_in rows all g q bytes count ((f, Unknown) ∷ ps) h e = counted_in rows all g q bytes count ps h e
counted_in rows all g q bytes count ((f, InPart k) ∷ ps) h e =
    let none = next_none _ _ h in
    counted_here rows all g q k f bytes (value_of g (part q ps)) count none.0 (counted_in rows all g q bytes count ps none.1) (part q ps) refl e
counted_in rows all g q bytes count ((f, Begins k around) ∷ ps) h e =
    let none = next_none _ _ h in
    counted_here rows all g q k f bytes (value_of g (part q ps)) count none.0 (counted_in rows all g q bytes count ps none.1) (part q ps) refl e
counted_in rows all g q bytes count ((f, Misplaced k) ∷ ps) h e = absurd (some_not_none _ h)

read_number : (n : ℕ) (r : Result ℕ ValueFault) → is_read_as n r ≡ true → r ≡ Ok n
read_number n (Ok m) h = let same : m ≡ n = grind (arith, nat_tests, h) in ap (λ (k : ℕ). Ok k) same
read_number n (Err e) h = absurd (search (h, rules))

why_ok : (r : Result ℕ ValueFault) → why r ≡ None → (n : ℕ) × (r ≡ Ok n)
why_ok (Ok n) h = (n, refl)
why_ok (Err e) h = absurd (some_not_none e h)

-- a count in its range
pub stated_range : (low high n : ℕ) (bytes : List ℕ) → emits n bytes ≡ true → value_fault (Integer low high) bytes ≡ None → (low ≤ n) × (n ≤ high)
unfolding integer_in
stated_range low high n bytes h k =
    let digits : Bool = nat_lt 0 (length bytes) && list_all is_ascii_digit bytes in
    let stated = read_number n _ h in
    let range = why_ok (integer_in low high bytes) k in
    let first = (within_test _ _ n (ok_then digits (within 0 1_000_000_000_000_000_000 (digits_value 10 bytes)) value.Format n stated)).1 in
    let second = (within_test _ _ range.0 (ok_then digits (within low high (digits_value 10 bytes)) value.Format range.0 range.1)).1 in
    let bound = integer_bound low high bytes range.0 range.1 in
    (omega (arith, bound.0, first, second), omega (arith, bound.1, first, second))

pub counted : (header rows : List Row) (ps : List LocatedFields) → Clean header rows ps → (g q low high : ℕ) → is_count g rows ≡ true
    → (bytes : List ℕ) → value_of g (part q ps) ≡ Some bytes → value_fault (Integer low high) bytes ≡ None
    → (low ≤ length (begins (first_tag g rows) q ps)) × (length (begins (first_tag g rows) q ps) ≤ high)
counted header rows ps c g q low high count bytes e right =
    stated_range low high _ bytes (counted_in rows ps g q bytes count ps c.counted e) right

-- the same where the count is required
pub count_range : (header rows : List Row) (ps : List LocatedFields) → Clean header rows ps → (g q low high : ℕ) → is_count g rows ≡ true
    → (o : Option (List ℕ)) → value_of g (part q ps) ≡ o → RowHolds (needs g (Integer low high)) o
    → (low ≤ length (begins (first_tag g rows) q ps)) × (length (begins (first_tag g rows) q ps) ≤ high)
count_range header rows ps c g q low high count None e h = absurd (search (h, rules))
count_range header rows ps c g q low high count (Some bytes) e h = counted header rows ps c g q low high count bytes e h

first_holds : (rows : List Row) (ps : List LocatedFields) (qs : List ℕ) → AllByRecursion (λ (q : ℕ). Holds rows (part q ps)) qs → 1 ≤ length qs → Holds rows (first_of (map (λ (q : ℕ). part q ps) qs))
first_holds rows ps [] h some = absurd (omega (arith, some))
first_holds rows ps (q ∷ qs) h some = h.0

pub sole_holds : (rows : List Row) (first : ℕ) (ps : List LocatedFields) → EachHolds rows first 0 ps → 1 ≤ length (begins first 0 ps) → Holds rows (sole first ps)
sole_holds rows first ps h some = first_holds rows ps (begins first 0 ps) h some
