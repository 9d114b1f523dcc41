-- Where fields are a group outside of groups, no field shows it to be miscounted.
use Rattle.std.proofs.Common.{◌≡◌, ℕ, ◌+◌, true, false, List, [], ◌∷◌, ◌++◌, length, is_some, refl, sym, ap, subst, ◌∙◌, arith, rules, ◌==◌, Option, Some, None, inl, inr, ◌⊎◌}
use Rattle.std.specs.List.{AllByRecursion}
use Rattle.std.proofs.lemmas.Bool.Decides.{nat_tests}
use Rattle.std.proofs.lemmas.Bool.{cases_eq, cases_Bool, or_parts, true≢false}
use Rattle.fix_fields.specs.Fields.{Entry}
use Rattle.fix_fields.specs.Groups.{has, is_member, is_own, is_named, kept, HasNo, IsInstance, IsGroup, IsNoGroup, Emits, chained}
use Rattle.fix_fields.specs.GroupParts.{emits}
use Rattle.fix_fields.specs.declared.group.Group.{Group}
use Rattle.fix_fields.specs.declared.group.GroupFault.TheVariants as groups
use Rattle.fix_dictionary.specs.Kinds.{is_grouped}
use Rattle.fix_validation.specs.declared.faults.DictFault.TheVariants.{Count}
use Rattle.fix_validation.specs.declared.table.Row.{Row}
use Rattle.fix_validation.specs.declared.positions.FieldPosition.{FieldPosition}
use Rattle.fix_validation.specs.declared.positions.FieldPosition.TheVariants.{Unknown, InPart, Begins, Misplaced}
use Rattle.fix_validation.specs.declared.positions.OpenGroup.{OpenGroup}
use Rattle.fix_validation.specs.declared.positions.State.{State}
use Rattle.fix_validation.specs.declared.positions.Stepped.{Stepped}
use Rattle.fix_validation.specs.Faults.{has_tag}
use Rattle.fix_validation.specs.GroupFaults.{twice, is_wrong, miscounts, miscounted}
use Rattle.fix_validation.specs.Positions.{LocatedFields, group_of, first_tag, is_count, opened_in, entered, outer_step, inner_step, step, located, start, begins}
use Rattle.fix_validation.specs.Tables.{header_rows}
use Rattle.fix_decoder.specs.Messages.{fault_in, type_in}
use Rattle.fix_group_laws.specs.Tied.{IsOfTable, is_within, rows_in, placed_in}
use Rattle.fix_group_laws.proofs.Views.{begun_at}
use Rattle.fix_group_laws.proofs.States.{IsNoStray, none_some, same_some, some_number, and_false, opening, opened_is, unlike_numbers, steps}
use Rattle.fix_group_laws.proofs.Faults.{cond_some, next_some, count_stated}
use Rattle.fix_group_laws.proofs.Named.{named}
use Rattle.fix_group_laws.proofs.Tags.{IsTable, not_zero, some_tag, no_member_first, no_member_in, not_tag, place_of, other_unlike, first_unlike}
use Rattle.fix_group_laws.proofs.Chains.{not_own, not_member}
use Rattle.fix_group_laws.proofs.Members.{IsPlace, ArePlaced, Stays, chain, with_other, same_head, same_tail, not_empty}
use Rattle.fix_group_laws.proofs.Ties.{IsOnce, IsHome, once}
use Rattle.fix_group_laws.proofs.Tables.{plain, table_of, placed_fields}

-- A field does not show the group to be miscounted: if it is the count, it is the number of its instances, and no
-- member is a stray.
abbrev pub IsRight : List Row → ℕ → ℕ → LocatedFields → Type 0
IsRight rows tag many p = (p.0.0 ≡ tag → (p.1 ≡ InPart 0) × (emits many p.0.1 ≡ true)) × (group_of p.0.0 rows ≡ Some tag → IsNoStray p.1)

pub not_shown : (rows : List Row) (tag : ℕ) (all : List LocatedFields) (f : Entry) (x : FieldPosition) → (0 ≡ tag → ⊥) → IsRight rows tag (length (begins (first_tag tag rows) 0 all)) (f, x)
    → miscounts rows all f x ≡ Some tag → ⊥
not_shown rows tag all f Unknown some right h = none_some tag h
not_shown rows tag all f (InPart q) some right h =
    let shown = cond_some (is_wrong rows all q f.0 f.1) f.0 tag h in
    let its = right.0 shown.1 in
    let home : q ≡ 0 = same_part q (its.0) in
    let wrong : is_wrong rows all 0 tag f.1 ≡ true = rw (home, shown.1) at shown.0 in
    true≢false (sym wrong ∙ rw its.1 (and_false (is_count tag rows)))
  where
    same_part : (q : ℕ) → InPart q ≡ InPart 0 → q ≡ 0
    same_part q h = search (h, rules)
not_shown rows tag all f (Begins q around) some right h =
    let its = right.0 (cond_some (is_wrong rows all q f.0 f.1) f.0 tag h).1 in
    unlike its.0
  where
    unlike : Begins q around ≡ InPart 0 → ⊥
    unlike h = search (h, rules)
not_shown rows tag all f (Misplaced q) some right h = right.1 (some_number tag some (group_of f.0 rows) (same_some _ tag h))

none_shown : (rows : List Row) (tag : ℕ) (all ps : List LocatedFields) → (0 ≡ tag → ⊥) → AllByRecursion (IsRight rows tag (length (begins (first_tag tag rows) 0 all))) ps
    → miscounted rows all ps ≡ Some tag → ⊥
none_shown rows tag all [] some right h = none_some tag h
none_shown rows tag all (p ∷ ps) some right h =
    none_shown rows tag all ps some right.1 (next_some (miscounts rows all p.0 p.1) (miscounted rows all ps) tag (not_shown rows tag all p.0 p.1 some right.0) h)

-- Fields without a tag of the group do not show it to be miscounted.

module _ (header rows : List Row) (tag : ℕ) (g : Group) (of : IsOfTable rows tag g) where
  -- a tag outside the group is not its count, and not in it
  not_count : (t : ℕ) → is_own g t ≡ false → t ≡ tag → ⊥
  not_count t out same =
      let test : (t == g.count) ≡ true = grind (arith, nat_tests, same, of.count) in
      true≢false (sym test ∙ (or_parts (t == g.count) (is_member g t) out).0)

  not_in : (t : ℕ) → is_own g t ≡ false → group_of t rows ≡ Some tag → ⊥
  not_in t out its =
      let parts = or_parts (t == g.first) (has g.others.now t) (not_member g t out) in
      let later : (t == first_tag tag rows) ≡ false = rw (← of.first) parts.0 in
      let self : (tag == tag) ≡ true = grind (arith, nat_tests) in
      let within : is_within rows tag (group_of t rows) ≡ true = rw (its, self) refl in
      let other : has g.others.now t ≡ true = of.others t ∙ rw (within, later) refl in
      true≢false (sym other ∙ parts.1)

  none_its : (many : ℕ) (fs : List Entry) (s : State) → HasNo (is_own g) fs → AllByRecursion (IsRight rows tag many) (located header rows s fs)
  none_its many [] s none = tt
  none_its many (f ∷ fs) s none =
      (((λ same. absurd (not_count f.0 none.0 same)), (λ its. absurd (not_in f.0 none.0 its))), none_its many fs _ none.1)

-- where it is shown, a field has one
pub present : (fields : List Entry) (tag : ℕ) (g : Group) → is_grouped (type_in fields) ≡ true → fault_in fields ≡ Some (Count tag)
    → IsOfTable (rows_in fields) tag g → HasNo (is_own g) fields → ⊥
present fields tag g grouped fault of none =
    let rows = rows_in fields in
    let ps = placed_in fields in
    let stated = count_stated header_rows rows ps fields tag (rw grouped at fault) in
    let some = its_number (group_of tag rows) (named fields tag grouped fault).1 in
    none_shown rows tag ps ps (not_zero rows (plain (type_in fields) grouped).none tag some.0 some.1)
    (none_its header_rows rows tag g of (length (begins (first_tag tag rows) 0 ps)) fields start none) stated.1
  where
    its_number : (w : Option ℕ) → is_some w ≡ true → (n : ℕ) × (w ≡ Some n)
    its_number None h = absurd (true≢false (sym h))
    its_number (Some n) h = (n, refl)

-- a number that is spelled
pub stated_right : (n : ℕ) (bytes : List ℕ) → Emits n bytes → emits n bytes ≡ true
stated_right n bytes number = let self : (n == n) ≡ true = grind (arith, nat_tests) in rw number self

-- a group that is entered stays the same
same_group : (rows : List Row) (n : ℕ) (o : OpenGroup) (t : ℕ) → (entered rows n o t).opening.group ≡ o.group
same_group rows n o t =
    elim (cases_Bool (t == first_tag o.group rows)) [
      | inl first ↦ rw first refl
      | inr later ↦ rw later refl
    ]

module _ (header rows : List Row) (tag : ℕ) (g : Group) (table : IsTable header rows tag 0 g) where
  abbrev first : ℕ
  first = first_tag tag rows

  -- The effect of a step where the group is open.

  to_group : (s : State) (t h : ℕ) → group_of t rows ≡ Some h → (0 ≡ h → ⊥) → step header rows s t ≡ inner_step rows s t h s.inner
  to_group s t h its some =
      let test = unlike_numbers h 0 (λ e. some (sym e)) in
      steps header rows table.apart s t h its ∙ rw test refl

  -- the group is open outside of groups, and none within it is this one
  record IsMine (s : State) (p : OpenGroup) : Type 0 where
    outer : s.outer ≡ Some p
    group : p.group ≡ tag
    around : p.around ≡ 0
    inner : (o : OpenGroup) → s.inner ≡ Some o → o.group ≡ tag → ⊥

  -- it stays so where a field opens a group
  mine_with : (n : ℕ) (p : OpenGroup) (t q : ℕ) → p.group ≡ tag → p.around ≡ 0 → (t ≡ tag → ⊥)
      → IsMine (record { begun = n; outer = Some p; inner = opened_in rows t (Some q) }) p
  mine_with n p t q group around other = record {
    outer = refl;
    group = group;
    around = around;
    inner = λ o h same. other (sym (ap (λ (o : OpenGroup). o.group) (opened_is rows t q o h)) ∙ same);
  }

  to_outer : (s : State) (p : OpenGroup) → IsMine s p → (t : ℕ) → group_of t rows ≡ Some tag → step header rows s t ≡ outer_step rows s t tag (Some p)
  to_outer s p mine t its = to_group s t tag its (some_tag header rows tag 0 g table) ∙ by_inner s.inner refl
    where
      by_inner : (o : Option OpenGroup) → s.inner ≡ o → inner_step rows s t tag o ≡ outer_step rows s t tag (Some p)
      by_inner None e = rw mine.outer refl
      by_inner (Some o) e = let test = unlike_numbers o.group tag (mine.inner o e) in rw (test, mine.outer) refl

  step_first : (s : State) (p : OpenGroup) → IsMine s p → (t : ℕ) → t ≡ first
      → step header rows s t ≡ record { position = Begins (s.begun + 1) p.around; state = record { begun = s.begun + 1; outer = Some (begun_at (s.begun + 1) p); inner = opened_in rows t (Some (s.begun + 1)) } }
  step_first s p mine t same =
      let test : (p.group == tag) ≡ true = grind (arith, nat_tests, mine.group) in
      let is_first : (t == first_tag p.group rows) ≡ true = rw mine.group (let e : (t == first) ≡ true = grind (arith, nat_tests, same) in e) in
      to_outer s p mine t (ap (λ (t : ℕ). group_of t rows) same ∙ table.first) ∙ rw (test, is_first) refl

  step_inside : (s : State) (p : OpenGroup) → IsMine s p → (t r : ℕ) → group_of t rows ≡ Some tag → (t == first) ≡ false → p.instance ≡ Some r
      → step header rows s t ≡ record { position = InPart r; state = record { begun = s.begun; outer = Some p; inner = opened_in rows t (Some r) } }
  step_inside s p mine t r its later at =
      let test : (p.group == tag) ≡ true = grind (arith, nat_tests, mine.group) in
      let not_first : (t == first_tag p.group rows) ≡ false = rw mine.group later in
      to_outer s p mine t its ∙ rw (test, not_first, at) refl

  -- a member of a group within, in its place or a stray
  step_deeper : (s : State) (p : OpenGroup) → IsMine s p → (t h r : ℕ) → group_of t rows ≡ Some h → group_of h rows ≡ Some tag → (h ≡ tag → ⊥) → p.instance ≡ Some r
      → IsMine (step header rows s t).state p
  step_deeper s p mine t h r its around other at =
      subst (λ (d : Stepped). IsMine d.state p) (sym (to_group s t h its (not_zero rows table.none h tag around))) (by_inner s.inner refl)
    where
      by_outer : IsMine (outer_step rows s t h s.outer).state p
      by_outer =
          let test : (p.group == h) ≡ false = unlike_numbers p.group h (λ same. other (sym same ∙ mine.group)) in
          let within : (tag == p.group) ≡ true = grind (arith, nat_tests, mine.group) in
          rw (mine.outer, test, at, around, within) (record { outer = refl; group = mine.group; around = mine.around; inner = λ o h. absurd (none_some o h) })

      by_inner : (o : Option OpenGroup) → s.inner ≡ o → IsMine (inner_step rows s t h o).state p
      by_inner None e = by_outer
      by_inner (Some o) e =
          elim (cases_eq o.group h) [
            | inl same ↦
                let test : (o.group == h) ≡ true = grind (arith, nat_tests, same) in
                rw test (record {
                  outer = mine.outer;
                  group = mine.group;
                  around = mine.around;
                  inner = λ o' k is. other (sym same ∙ sym (same_group rows s.begun o t) ∙ ap (λ (o : OpenGroup). o.group) (same_some _ o' k) ∙ is);
                })
            | inr unlike ↦
                let test : (o.group == h) ≡ false = grind (arith, nat_tests, unlike) in
                rw test by_outer
          ]

  -- a member continues it, or begins an instance
  stays : Stays header rows tag 0 0 g table IsMine
  stays = record {
    there = λ s p mine. mine.around;
    starts = λ s p mine t same.
        let e = step_first s p mine t same in (
          ap (λ (d : Stepped). d.position) e,
          subst (λ (d : Stepped). IsMine d.state (begun_at (s.begun + 1) p)) (sym e)
              (mine_with (s.begun + 1) (begun_at (s.begun + 1) p) t (s.begun + 1) mine.group mine.around (λ is. first_unlike header rows tag 0 g table (sym same ∙ is))),
        );
    goes = λ s p r mine at t other. goes_on s p r mine at t (other_unlike header rows tag 0 g table t other) (place_of header rows tag 0 g table t other);
  }
    where
      goes_on : (s : State) (p : OpenGroup) (r : ℕ) → IsMine s p → p.instance ≡ Some r → (t : ℕ) → (t ≡ tag → ⊥)
          → ((t == first) ≡ false) × ((group_of t rows ≡ Some tag) ⊎ ((h : ℕ) × ((group_of t rows ≡ Some h) × ((group_of h rows ≡ Some tag) × (h ≡ tag → ⊥)))))
          → (group_of t rows ≡ Some tag → IsNoStray (step header rows s t).position) × IsMine (step header rows s t).state p
      goes_on s p r mine at t unlike (later, inl its) =
          let e = step_inside s p mine t r its later at in (
            (λ is. subst (λ (d : Stepped). IsNoStray d.position) (sym e) tt),
            subst (λ (d : Stepped). IsMine d.state p) (sym e) (mine_with s.begun p t r mine.group mine.around unlike),
          )
      goes_on s p r mine at t unlike (later, inr deeper) = (
        (λ its. absurd (deeper.1.1.1 (same_some deeper.0 tag (sym deeper.1.0 ∙ its)))),
        step_deeper s p mine t deeper.0 r deeper.1.0 deeper.1.1.0 deeper.1.1.1 at,
      )

  -- What the fields show.

  -- no field shows the group to be miscounted, and this many instances begin
  abbrev AreRight : ℕ → ℕ → List LocatedFields → Type 0
  AreRight many n ps = AllByRecursion (IsRight rows tag many) ps × (length (begins first 0 ps) ≡ n)

  -- a field that is neither the count nor a first tag
  sibling : (many n : ℕ) (p : LocatedFields) (ps : List LocatedFields) → (p.0.0 == tag) ≡ false → (p.0.0 == first) ≡ false → (group_of p.0.0 rows ≡ Some tag → IsNoStray p.1)
      → AreRight many n ps → AreRight many n (p ∷ ps)
  sibling many n p ps other later clear right =
      let passed = with_other first 0 p.0.0 p.1 (begins first 0 ps) later in
      (((λ same. absurd (true≢false (sym (test same) ∙ other)), clear), right.0), ap length passed ∙ right.1)
    where
      test : p.0.0 ≡ tag → (p.0.0 == tag) ≡ true
      test same = grind (arith, nat_tests, same)

  -- a field that is not a member
  foreign : (many n : ℕ) (p : LocatedFields) (ps : List LocatedFields) → (p.0.0 == tag) ≡ false → is_member g p.0.0 ≡ false → AreRight many n ps → AreRight many n (p ∷ ps)
  foreign many n p ps other out right = sibling many n p ps other (no_member_first header rows tag 0 g table p.0.0 out) (λ its. absurd (no_member_in header rows tag 0 g table p.0.0 out its)) right

  -- members in their places, none of which is the count
  all_right : (many n : ℕ) (fs : List Entry) (s : State) → has_tag tag fs ≡ false → ArePlaced header rows tag 0 0 g table n (located header rows s fs)
      → AreRight many n (located header rows s fs)
  all_right many n fs s none its = (each fs s none its.0, its.1)
    where
      each : (fs : List Entry) (s : State) → has_tag tag fs ≡ false → AllByRecursion (IsPlace header rows tag 0 0 g table) (located header rows s fs)
          → AllByRecursion (IsRight rows tag many) (located header rows s fs)
      each [] s none clear = tt
      each (f ∷ fs) s none clear =
          let tags = or_parts (f.0 == tag) (has_tag tag fs) none in
          (((λ same. let test : (f.0 == tag) ≡ true = grind (arith, nat_tests, same) in absurd (true≢false (sym test ∙ tags.0))), clear.0), each fs _ tags.1 clear.1)

  -- All fields.

  -- the count is outside of groups
  homes : (fs : List Entry) (s : State) → AllByRecursion (IsHome header rows tag 0 0 g table) (located header rows s fs)
  homes [] s = tt
  homes (f ∷ fs) s =
      ((λ same. ap (λ (d : Stepped). d.position) (steps header rows table.apart s f.0 0 (ap (λ (t : ℕ). group_of t rows) same ∙ table.count))), homes fs _)

  -- fields that are a group, some before the count and the count with its instances, show no miscount
  abbrev IsWhole : Entry → List (List Entry) → List Entry → List Entry → Type 0
  IsWhole count is rest fs = (s : State) (front : List Entry) → kept g fs ≡ front ++ count ∷ (chained is ++ rest) → HasNo (is_own g) front → IsOnce tag fs
      → AreRight (length is) (length is) (located header rows s fs)

  module _ (count : Entry) (is : List (List Entry)) (rest : List Entry) (its : count.0 ≡ g.count) (each : AllByRecursion (IsInstance g) is)
      (out : HasNo (is_member g) rest) (number : Emits (length is) count.1) where
    at_count : (f : Entry) (fs : List Entry) (s : State) → f ≡ count → kept g fs ≡ chained is ++ rest → IsOnce tag (f ∷ fs)
        → AreRight (length is) (length is) (located header rows s (f ∷ fs))
    at_count f fs s this parts single =
        let same : f.0 ≡ tag = ap (λ (e : Entry). e.0) this ∙ its ∙ table.of.count in
        let test : (f.0 == tag) ≡ true = grind (arith, nat_tests, same) in
        let in_none : group_of f.0 rows ≡ Some 0 = ap (λ (t : ℕ). group_of t rows) same ∙ table.count in
        let is_one : is_count f.0 rows ≡ true = ap (λ (t : ℕ). is_count t rows) same ∙ table.counts in
        let e : step header rows s f.0 ≡ record { position = InPart 0; state = record { begun = s.begun; outer = Some (opening f.0 0); inner = None } } = steps header rows table.apart s f.0 0 in_none ∙ rw is_one refl in
        let mine : IsMine (record { begun = s.begun; outer = Some (opening f.0 0); inner = None }) (opening f.0 0) = record { outer = refl; group = same; around = refl; inner = λ o h. absurd (none_some o h) } in
        let its_members = chain header rows tag 0 0 g table IsMine stays fs _ (opening f.0 0) [] is rest mine (inl refl) parts tt each out in
        let right = all_right (length is) (length is) fs _ (single.0 test) its_members in
        let stated : emits (length is) f.1 ≡ true = rw this (stated_right (length is) count.1 number) in
        rw e ((((λ is_tag. (refl, stated)), (λ within. tt)), right.0), right.1)

    whole_named : (f : Entry) (fs : List Entry) → IsWhole count is rest fs → (s : State) (front : List Entry) → f ∷ kept g fs ≡ front ++ count ∷ (chained is ++ rest)
        → HasNo (is_own g) front → IsOnce tag (f ∷ fs) → AreRight (length is) (length is) (located header rows s (f ∷ fs))
    whole_named f fs on s [] parts before single = at_count f fs s (same_head f count _ _ parts) (same_tail f count _ _ parts) single
    whole_named f fs on s (x ∷ front) parts before single =
        let own : is_own g f.0 ≡ false = rw (same_head f x _ _ parts) before.0 in
        foreign (length is) (length is) _ _ (not_tag header rows tag 0 g table f.0 own) (not_member g f.0 own) (on _ front (same_tail f x _ _ parts) before.1 single.1)

    whole : (fs : List Entry) → IsWhole count is rest fs
    whole [] s [] parts before single = absurd (not_empty _ _ parts)
    whole [] s (x ∷ front) parts before single = absurd (not_empty _ _ parts)
    whole (f ∷ fs) s front parts before single =
        elim (cases_Bool (is_named g f.0)) [
          | inl named ↦
              let parts_on : f ∷ kept g fs ≡ front ++ count ∷ (chained is ++ rest) = rw named at parts in
              whole_named f fs (whole fs) s front parts_on before single
          | inr unnamed ↦
              let parts_on : kept g fs ≡ front ++ count ∷ (chained is ++ rest) = rw unnamed at parts in
              let own = not_own g f.0 unnamed in
              foreign (length is) (length is) _ _ (not_tag header rows tag 0 g table f.0 own) (not_member g f.0 own) (whole fs _ front parts_on before single.1)
        ]

  -- fields that are a group do not have it as the first one that is miscounted
  pub not_refused : (fs : List Entry) (s : State) (is : List (List Entry)) → twice [] (located header rows s fs) ≡ None
      → miscounted rows (located header rows s fs) (located header rows s fs) ≡ Some tag → IsGroup g fs is → ⊥
  not_refused fs s is new shown group =
      let ps = located header rows s fs in
      let single : IsOnce tag fs = subst (λ (l : List Entry). IsOnce tag l) (placed_fields header rows fs s) (once header rows tag 0 0 g table ps [] (homes fs s) new).0 in
      let right = whole group.count is group.rest group.tag group.each group.behind group.number fs s group.front group.parts group.before single in
      none_shown rows tag ps ps (some_tag header rows tag 0 g table) (rw right.1 right.0) shown

pub refused : (fields : List Entry) (tag : ℕ) (g : Group) → is_grouped (type_in fields) ≡ true → fault_in fields ≡ Some (Count tag)
    → group_of tag (rows_in fields) ≡ Some 0 → IsOfTable (rows_in fields) tag g → IsNoGroup g fields groups.Count
refused fields tag g grouped fault count of =
    let rows = rows_in fields in
    let is_one = (named fields tag grouped fault).0 in
    let p = plain (type_in fields) grouped in
    let zero = unlike_numbers 0 tag (not_zero rows p.none tag 0 count) in
    let table = table_of rows p tag 0 g is_one count (rw (zero, p.none, zero) refl) of in
    let stated = count_stated header_rows rows (placed_in fields) fields tag (rw grouped at fault) in
    (present fields tag g grouped fault of, λ is group. not_refused header_rows rows tag g table fields start is stated.0 stated.1 group)
