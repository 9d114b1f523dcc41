-- The group of a Count fault is a count that the table names.
use Rattle.std.proofs.Common.{◌≡◌, ℕ, true, false, Bool, List, [], ◌∷◌, is_some, refl, sym, ap, ◌∙◌, arith, cond, ◌==◌, ◌&&◌, ◌||◌, Option, Some, None, inl, inr}
use Rattle.std.proofs.lemmas.Bool.Decides.{nat_tests}
use Rattle.std.proofs.lemmas.Bool.{cases_eq, true≢false}
use Rattle.fix_fields.specs.Fields.{Entry}
use Rattle.fix_dictionary.specs.Kinds.{is_grouped}
use Rattle.fix_validation.specs.declared.faults.DictFault.TheVariants.{Count}
use Rattle.fix_validation.specs.declared.table.Row.{Row}
use Rattle.fix_validation.specs.declared.positions.FieldPosition.{FieldPosition}
use Rattle.fix_validation.specs.declared.positions.FieldPosition.TheVariants.{Unknown, InPart, Begins, Misplaced}
use Rattle.fix_validation.specs.declared.positions.State.{State}
use Rattle.fix_validation.specs.Stated.{some_or}
use Rattle.fix_validation.specs.GroupFaults.{is_wrong, miscounts, miscounted, or_next}
use Rattle.fix_validation.specs.Positions.{LocatedFields, group_of, is_count, header_step, step, located, start}
use Rattle.fix_validation.specs.Tables.{header_rows}
use Rattle.fix_decoder.specs.Messages.{fault_in, type_in}
use Rattle.fix_group_laws.specs.Tied.{rows_in, placed_in}
use Rattle.fix_group_laws.proofs.States.{none_some, same_some, or_true, steps}
use Rattle.fix_group_laws.proofs.Faults.{cond_some, next_some, count_stated}
use Rattle.fix_group_laws.proofs.Tables.{AreNamed, apart_of, plain}

-- a group is 0 or named
abbrev IsNamed : List Row → ℕ → Type 0
IsNamed all h = ((h == 0) || is_some (group_of h all)) ≡ true

-- each count is so
count_named : (all rows : List Row) → AreNamed all rows → (t : ℕ) → is_count t rows ≡ true → IsNamed all t
count_named all [] h t counts = absurd (true≢false (sym counts))
count_named all (r ∷ rs) h t counts =
    elim (cases_eq r.group t) [
      | inl same ↦ ap (λ (n : ℕ). (n == 0) || is_some (group_of n all)) (sym same) ∙ h.0
      | inr other ↦
          let test : (r.group == t) ≡ false = grind (arith, nat_tests, other) in
          count_named all rs h.1 t (rw test at counts)
    ]

-- the group of each tag is so
group_named : (all rows : List Row) → AreNamed all rows → (t h : ℕ) → group_of t rows ≡ Some h → IsNamed all h
group_named all [] h t group its = absurd (none_some group its)
group_named all (r ∷ rs) h t group its =
    elim (cases_eq r.tag t) [
      | inl same ↦
          let test : (r.tag == t) ≡ true = grind (arith, nat_tests, same) in
          ap (λ (n : ℕ). (n == 0) || is_some (group_of n all)) (sym (same_some r.group group (rw test at its))) ∙ h.0
      | inr other ↦
          let test : (r.tag == t) ≡ false = grind (arith, nat_tests, other) in
          group_named all rs h.1 t group (rw test at its)
    ]

-- what is not named is 0
is_zero : (all : List Row) (h : ℕ) → IsNamed all h → group_of h all ≡ None → h ≡ 0
is_zero all h named none =
    elim (cases_eq h 0) [
      | inl zero ↦ zero
      | inr some ↦
          let test : (h == 0) ≡ false = grind (arith, nat_tests, some) in
          let found : false ≡ true = rw (test, none) at named in
          absurd (true≢false (sym found))
    ]

first_test : (a b : Bool) → (a && b) ≡ true → a ≡ true
first_test true b h = refl
first_test false b h = absurd (true≢false (sym h))

module _ (header rows : List Row) (apart : (t x : ℕ) → group_of t header ≡ Some x → group_of t rows ≡ None) (no_header : group_of 0 header ≡ None)
    (named : AreNamed rows rows) (tag : ℕ) (unnamed : group_of tag rows ≡ None) (all : List LocatedFields) where
  -- a field that the table does not name, of the header or none
  in_header : (f : Entry) (s : State) (w : Option ℕ) → group_of f.0 header ≡ w → group_of f.0 rows ≡ None → miscounts rows all f (header_step rows s f.0 w).position ≡ Some tag → ⊥
  in_header f s None e none h =
      let stands : (header_step rows s f.0 None).position ≡ Unknown = rw none refl in
      let shown : None ≡ Some tag = rw stands at h in
      none_some tag shown
  in_header f s (Some x) e none h =
      let shown = cond_some (is_wrong rows all 0 f.0 f.1) f.0 tag h in
      let counts : is_count f.0 rows ≡ true = first_test (is_count f.0 rows) _ shown.0 in
      let zero = is_zero rows f.0 (count_named rows rows named f.0 counts) none in
      none_some x (sym no_header ∙ ap (λ (t : ℕ). group_of t header) (sym zero) ∙ e)

  own : (f : Entry) (h : ℕ) → group_of f.0 rows ≡ Some h → (q : ℕ) → cond (is_wrong rows all q f.0 f.1) (Some f.0) None ≡ Some tag → ⊥
  own f h its q shown =
      none_some h (sym unnamed ∙ ap (λ (t : ℕ). group_of t rows) (sym (cond_some (is_wrong rows all q f.0 f.1) f.0 tag shown).1) ∙ its)

  -- a field that the table names
  in_table : (f : Entry) (h : ℕ) → group_of f.0 rows ≡ Some h → (h ≡ 0 → ⊥) → (x : FieldPosition) → miscounts rows all f x ≡ Some tag → ⊥
  in_table f h its some Unknown shown = none_some tag shown
  in_table f h its some (InPart q) shown = own f h its q shown
  in_table f h its some (Begins q around) shown = own f h its q shown
  in_table f h its some (Misplaced q) shown =
      let same : h ≡ tag = ap (some_or 0) (sym its) ∙ same_some _ tag shown in
      some (is_zero rows h (group_named rows rows named f.0 h its) (ap (λ (t : ℕ). group_of t rows) same ∙ unnamed))

  shows_named : (f : Entry) (s : State) → miscounts rows all f (step header rows s f.0).position ≡ Some tag → ⊥
  shows_named f s h = by_group (group_of f.0 rows) refl
    where
      by_group : (w : Option ℕ) → group_of f.0 rows ≡ w → ⊥
      by_group None its = in_header f s (group_of f.0 header) refl its h
      by_group (Some n) its =
          elim (cases_eq n 0) [
            | inl zero ↦
                let in_none : group_of f.0 rows ≡ Some 0 = its ∙ ap (λ (n : ℕ). Some n) zero in
                let shown : miscounts rows all f (InPart 0) ≡ Some tag = rw (steps header rows apart s f.0 0 in_none) at h in
                own f n its 0 shown
            | inr some ↦ in_table f n its some (step header rows s f.0).position h
          ]

  states_named : (fs : List Entry) (s : State) → miscounted rows all (located header rows s fs) ≡ Some tag → ⊥
  states_named [] s h = none_some tag h
  states_named (f ∷ fs) s h = states_named fs _ (next_some _ (miscounted rows all (located header rows (step header rows s f.0).state fs)) tag (shows_named f s) h)

-- The tag is a count.

-- each group of a tag has its count
group_counts : (rows : List Row) (t h : ℕ) → group_of t rows ≡ Some h → is_count h rows ≡ true
group_counts [] t h its = absurd (none_some h its)
group_counts (r ∷ rs) t h its =
    elim (cases_eq r.tag t) [
      | inl same ↦
          let test : (r.tag == t) ≡ true = grind (arith, nat_tests, same) in
          let of : r.group ≡ h = same_some r.group h (rw test at its) in
          let here : (r.group == h) ≡ true = grind (arith, nat_tests, of) in
          rw here refl
      | inr other ↦
          let test : (r.tag == t) ≡ false = grind (arith, nat_tests, other) in
          rw (group_counts rs t h (rw test at its)) (or_true (r.group == h))
    ]

module _ (header rows : List Row) (tag : ℕ) (all : List LocatedFields) where
  own_counts : (f : Entry) (q : ℕ) → cond (is_wrong rows all q f.0 f.1) (Some f.0) None ≡ Some tag → is_count tag rows ≡ true
  own_counts f q h =
      let shown = cond_some (is_wrong rows all q f.0 f.1) f.0 tag h in
      ap (λ (t : ℕ). is_count t rows) (sym shown.1) ∙ first_test (is_count f.0 rows) _ shown.0

  -- a field that the table does not name
  unnamed_counts : (f : Entry) (s : State) (w : Option ℕ) → group_of f.0 rows ≡ None → miscounts rows all f (header_step rows s f.0 w).position ≡ Some tag → is_count tag rows ≡ true
  unnamed_counts f s None none h =
      let stands : (header_step rows s f.0 None).position ≡ Unknown = rw none refl in
      let shown : None ≡ Some tag = rw stands at h in
      absurd (none_some tag shown)
  unnamed_counts f s (Some x) none h = own_counts f 0 h

  named_counts : (f : Entry) (n : ℕ) → group_of f.0 rows ≡ Some n → (x : FieldPosition) → miscounts rows all f x ≡ Some tag → is_count tag rows ≡ true
  named_counts f n its Unknown h = absurd (none_some tag h)
  named_counts f n its (InPart q) h = own_counts f q h
  named_counts f n its (Begins q around) h = own_counts f q h
  named_counts f n its (Misplaced q) h =
      let same : n ≡ tag = ap (some_or 0) (sym its) ∙ same_some _ tag h in
      ap (λ (t : ℕ). is_count t rows) (sym same) ∙ group_counts rows f.0 n its

  shown_counts : (f : Entry) (s : State) (w : Option ℕ) → group_of f.0 rows ≡ w → miscounts rows all f (step header rows s f.0).position ≡ Some tag → is_count tag rows ≡ true
  shown_counts f s None its h = unnamed_counts f s (group_of f.0 header) its h
  shown_counts f s (Some n) its h = named_counts f n its (step header rows s f.0).position h

  states_count : (fs : List Entry) (s : State) → miscounted rows all (located header rows s fs) ≡ Some tag → is_count tag rows ≡ true
  states_count [] s h = absurd (none_some tag h)
  states_count (f ∷ fs) s h = by_shown (miscounts rows all f (step header rows s f.0).position) refl (states_count fs (step header rows s f.0).state) h
    where
      by_shown : (o : Option ℕ) → miscounts rows all f (step header rows s f.0).position ≡ o
          → (miscounted rows all (located header rows (step header rows s f.0).state fs) ≡ Some tag → is_count tag rows ≡ true)
          → or_next o (miscounted rows all (located header rows (step header rows s f.0).state fs)) ≡ Some tag → is_count tag rows ≡ true
      by_shown None e on h = on h
      by_shown (Some t) e on h = shown_counts f s (group_of f.0 rows) refl (e ∙ h)

pub named : (fields : List Entry) (tag : ℕ) → is_grouped (type_in fields) ≡ true → fault_in fields ≡ Some (Count tag)
    → (is_count tag (rows_in fields) ≡ true) × (is_some (group_of tag (rows_in fields)) ≡ true)
named fields tag grouped fault =
    let rows = rows_in fields in
    let p = plain (type_in fields) grouped in
    let stated = count_stated header_rows rows (placed_in fields) fields tag (rw grouped at fault) in (
      states_count header_rows rows tag (placed_in fields) fields start stated.1,
      by_group (group_of tag rows) (λ unnamed. states_named header_rows rows (apart_of header_rows rows p.apart) refl p.named tag unnamed (placed_in fields) fields start stated.1),
    )
  where
    by_group : (w : Option ℕ) → (w ≡ None → ⊥) → is_some w ≡ true
    by_group None h = absurd (h refl)
    by_group (Some h) k = refl
