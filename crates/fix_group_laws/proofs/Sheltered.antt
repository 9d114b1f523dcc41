-- Where fields are a group within the one instance of another, no field shows it first to be miscounted.
use Rattle.std.proofs.Common.{◌≡◌, ℕ, ◌+◌, ◌≤◌, true, false, List, [], ◌∷◌, ◌++◌, length, refl, sym, ap, subst, ◌∙◌, arith, ◌==◌, Option, Some, None, inl, inr, ◌⊎◌}
use Rattle.std.specs.List.{AllByRecursion}
use Rattle.std.proofs.lemmas.Bool.Decides.{nat_tests}
use Rattle.std.proofs.lemmas.Bool.{cases_eq, cases_Bool, true≢false}
use Rattle.fix_fields.specs.Fields.{Entry}
use Rattle.fix_fields.specs.Groups.{is_member, is_own, is_named, kept, HasNo, IsInstance, IsGroup, IsNoGroup, Emits, chained}
use Rattle.fix_fields.specs.GroupParts.{emits}
use Rattle.fix_fields.specs.declared.group.Group.{Group}
use Rattle.fix_fields.specs.declared.group.GroupFault.TheVariants as groups
use Rattle.fix_dictionary.specs.Kinds.{is_grouped}
use Rattle.fix_validation.specs.declared.faults.DictFault.TheVariants.{Count}
use Rattle.fix_validation.specs.declared.table.Row.{Row}
use Rattle.fix_validation.specs.declared.positions.FieldPosition.{FieldPosition}
use Rattle.fix_validation.specs.declared.positions.FieldPosition.TheVariants.{InPart, Begins}
use Rattle.fix_validation.specs.declared.positions.OpenGroup.{OpenGroup}
use Rattle.fix_validation.specs.declared.positions.State.{State}
use Rattle.fix_validation.specs.declared.positions.Stepped.{Stepped}
use Rattle.fix_validation.specs.Stated.{some_or}
use Rattle.fix_validation.specs.Faults.{has_tag}
use Rattle.fix_validation.specs.GroupFaults.{twice, is_wrong, miscounts, miscounted, or_next, repeats}
use Rattle.fix_validation.specs.Positions.{LocatedFields, group_of, first_tag, is_count, inner_step, step, located, start, begins, with_begin, part, opened}
use Rattle.fix_validation.specs.Tables.{header_rows}
use Rattle.fix_decoder.specs.Messages.{fault_in, type_in}
use Rattle.fix_group_laws.specs.Tied.{IsOfTable, rows_in, placed_in}
use Rattle.fix_group_laws.proofs.Views.{begun_at, view, aside, headed, closes, begins_outer, goes_outer, begins_inner, goes_inner, strays}
use Rattle.fix_group_laws.proofs.States.{IsNoStray, none_some, same_some, or_true, and_false, opening, opened_is, unlike_numbers, IsSound, sound_closed, sound_begun, sound_on, sound_within, sound_inner, sound_start, steps}
use Rattle.fix_group_laws.proofs.Faults.{count_stated}
use Rattle.fix_group_laws.proofs.Named.{named}
use Rattle.fix_group_laws.proofs.Tags.{IsTable, not_zero, some_tag, no_member_first, no_member_in, not_tag, place_of}
use Rattle.fix_group_laws.proofs.Chains.{not_own, not_member}
use Rattle.fix_group_laws.proofs.Ties.{stray_here, part_append}
use Rattle.fix_group_laws.proofs.Tables.{plain, table_of, AreFlat, led_of}
use Rattle.fix_decoder.proofs.HoldLemmas.{cond_none}
use Rattle.fix_decoder.proofs.LookLemmas.{has_tag_append}
use Rattle.fix_group_laws.proofs.Inner.{AreAll, IsSole, AreSole, sole_behind, not_outside, its_around, not_within, all_begun}
use Rattle.fix_group_laws.proofs.Members.{IsPlace, Stays, chain, with_other, same_head, same_tail}
use Rattle.fix_group_laws.proofs.Converse.{not_shown, present, stated_right}

-- the fault is shown after a field that does not show it
next_other : (a b : Option ℕ) (tag : ℕ) → (a ≡ Some tag → ⊥) → or_next a b ≡ Some tag → (a ≡ None) × (b ≡ Some tag)
next_other None b tag other h = (refl, h)
next_other (Some t) b tag other h = absurd (other h)

-- a tag in a part is in it with another field
has_before : (tag q : ℕ) (earlier : List LocatedFields) (p : LocatedFields) → has_tag tag (part q earlier) ≡ true → has_tag tag (part q (earlier ++ p ∷ [])) ≡ true
has_before tag q earlier p found =
    ap (has_tag tag) (part_append q earlier (p ∷ [])) ∙ has_tag_append tag (part q earlier) (part q (p ∷ [])) ∙ rw found refl

has_behind : (tag q : ℕ) (earlier : List LocatedFields) (p : LocatedFields) → has_tag tag (part q (p ∷ [])) ≡ true → has_tag tag (part q (earlier ++ p ∷ [])) ≡ true
has_behind tag q earlier p found =
    ap (has_tag tag) (part_append q earlier (p ∷ [])) ∙ has_tag_append tag (part q earlier) (part q (p ∷ [])) ∙ rw found (or_true (has_tag tag (part q earlier)))

-- no group is within a group that is within another one
flat_of : (all rows : List Row) → AreFlat all rows → (tag around : ℕ) → group_of tag all ≡ Some around → (0 ≡ around → ⊥)
    → (t h : ℕ) → group_of t rows ≡ Some h → group_of h all ≡ Some tag → ⊥
flat_of all [] flat tag around count some t h its within = none_some h its
flat_of all (r ∷ rs) flat tag around count some t h its within =
    elim (cases_eq r.tag t) [
      | inl same ↦
          let test : (r.tag == t) ≡ true = grind (arith, nat_tests, same) in
          let of : r.group ≡ h = same_some r.group h (rw test at its) in
          let around_it : group_of r.group all ≡ Some tag = ap (λ (n : ℕ). group_of n all) of ∙ within in
          let zero : some_or 0 (group_of tag all) ≡ 0 = rw around_it at flat.0 in
          some (sym zero ∙ ap (some_or 0) count)
      | inr other ↦
          let test : (r.tag == t) ≡ false = grind (arith, nat_tests, other) in
          flat_of all rs flat.1 tag around count some t h (rw test at its) within
    ]

module _ (header rows : List Row) (tag around q : ℕ) (g : Group) (table : IsTable header rows tag around g) (outside : group_of around rows ≡ Some 0)
    (led : first_tag around rows ≡ tag → ⊥) (flat : (t h : ℕ) → group_of t rows ≡ Some h → group_of h rows ≡ Some tag → ⊥) where
  abbrev first : ℕ
  first = first_tag tag rows

  abbrev Sole : State → Type 0
  Sole s = IsSole header rows tag around q g table outside led s

  abbrev AllSole : List LocatedFields → Type 0
  AllSole ps = AreSole header rows tag around q g table outside led ps

  abbrev Kept : State → Type 0
  Kept s = IsSound rows s × Sole s

  -- The facts of the open groups hold after a field that is not a stray.
  next : (f : Entry) (fs : List Entry) (s : State) → Kept s → AllSole (located header rows s (f ∷ fs)) → IsNoStray (step header rows s f.0).position
      → Kept (step header rows s f.0).state
  next f fs s was all clear =
      elim (view header rows s f.0) [
        | aside its e ↦ by _ e was
        | headed x its e ↦ by _ e was
        | closes its e ↦ by _ e
            (sound_closed rows s was.0 f.0 its, (λ p n h same this. absurd (none_some n (sym (ap (λ (p : OpenGroup). p.instance) (opened_is rows f.0 0 p h)) ∙ this))))
        | begins_outer p is_open its first e ↦ by _ e (
          sound_begun rows s was.0 f.0 p is_open its,
          (λ p' n h same this. let is = same_some (begun_at (s.begun + 1) p) p' h in
              sym (same_some (s.begun + 1) n (ap (λ (p : OpenGroup). p.instance) is ∙ this))
              ∙ all_begun (first_tag around rows) q f.0 (s.begun + 1) p.around _ (first ∙ ap (λ (n : ℕ). first_tag n rows) (ap (λ (p : OpenGroup). p.group) is ∙ same)) (was.0.outer p is_open).1 (rw e at all)),
        )
        | goes_outer p n is_open this its later e ↦ by _ e (sound_on rows s was.0 f.0 p n is_open this its, (λ p' n h. was.1 p' n (is_open ∙ h)))
        | begins_inner o is_open its first e ↦ by _ e (sound_within rows s was.0 f.0 o is_open, was.1)
        | goes_inner o n is_open this its later e ↦ by _ e (sound_inner rows s was.0 f.0 o is_open, was.1)
        | strays n x e ↦ absurd (rw e at clear)
      ]
    where
      by : (d : Stepped) → step header rows s f.0 ≡ d → Kept d.state → Kept (step header rows s f.0).state
      by d e k = subst (λ (d : Stepped). Kept d.state) (sym e) k

  all_on : (f : Entry) (fs : List Entry) (s : State) → AllSole (located header rows s (f ∷ fs)) → AllSole (located header rows (step header rows s f.0).state fs)
  all_on f fs s all = sole_behind header rows tag around q g table outside led f fs s _ refl all

  -- the count opens its group in the one instance around it, or shows a miscounted group
  abbrev Opens : Stepped → Type 0
  Opens d = (d.position ≡ InPart q) × (d.state.inner ≡ Some (opening tag q))

  at_count : (all : List LocatedFields) (f : Entry) (s : State) → Kept s → f.0 ≡ tag → (miscounts rows all f (step header rows s f.0).position ≡ Some around) ⊎ Opens (step header rows s f.0)
  at_count all f s was same =
      elim (view header rows s f.0) [
        | aside its e ↦ absurd (none_some around (sym its ∙ here))
        | headed x its e ↦ absurd (none_some around (sym (table.apart f.0 x its) ∙ here))
        | closes its e ↦ absurd (not_outside header rows tag around q g table outside led f.0 its same)
        | begins_outer p is_open its is_first e ↦ absurd (led (ap (λ (n : ℕ). first_tag n rows) (sym (around_of p.group its)) ∙ sym is_first ∙ same))
        | goes_outer p n is_open this its later e ↦
            let at : n ≡ q = was.1 p n is_open (around_of p.group its) this in
            let is_one : is_count f.0 rows ≡ true = ap (λ (t : ℕ). is_count t rows) same ∙ table.counts in
            let opens : opened rows f.0 n ≡ Some (opening f.0 n) = rw is_one refl in
            inr (
              ap (λ (d : Stepped). d.position) e ∙ ap (λ (n : ℕ). InPart n) at,
              ap (λ (d : Stepped). d.state.inner) e ∙ opens ∙ ap (λ (t : ℕ). Some (opening t n)) same ∙ ap (λ (n : ℕ). Some (opening tag n)) at,
            )
        | begins_inner o is_open its is_first e ↦ absurd (not_deep o is_open its)
        | goes_inner o n is_open this its later e ↦ absurd (not_deep o is_open its)
        | strays n x e ↦ inl (ap (λ (d : Stepped). miscounts rows all f d.position) e ∙ ap (λ (w : Option ℕ). Some (some_or 0 w)) here)
      ]
    where
      here : group_of f.0 rows ≡ Some around
      here = ap (λ (t : ℕ). group_of t rows) same ∙ table.count

      around_of : (h : ℕ) → group_of f.0 rows ≡ Some h → h ≡ around
      around_of h its = its_around header rows tag around q g table outside led f.0 h its same

      not_deep : (o : OpenGroup) → s.inner ≡ Some o → group_of f.0 rows ≡ Some o.group → ⊥
      not_deep o is_open its =
          let of = was.0.inner o is_open in
          not_within header rows tag around q g table outside led f.0 o.group of.0.group its of.1.1.0 (was.0.outer of.0 of.1.0).0 same

  -- Fields after the count.

  -- the group is open, in the one instance around it
  record IsHeld (s : State) (o : OpenGroup) : Type 0 where
    inner : s.inner ≡ Some o
    group : o.group ≡ tag
    home : o.around ≡ q

  to_inner : (s : State) (o : OpenGroup) → IsHeld s o → (t : ℕ) → group_of t rows ≡ Some tag → step header rows s t ≡ inner_step rows s t tag (Some o)
  to_inner s o held t its =
      let test = unlike_numbers tag 0 (λ e. some_tag header rows tag around g table (sym e)) in
      steps header rows table.apart s t tag its ∙ rw (test, held.inner) refl

  step_first : (s : State) (o : OpenGroup) → IsHeld s o → (t : ℕ) → t ≡ first
      → step header rows s t ≡ record { position = Begins (s.begun + 1) o.around; state = record { begun = s.begun + 1; outer = s.outer; inner = Some (begun_at (s.begun + 1) o) } }
  step_first s o held t same =
      let test : (o.group == tag) ≡ true = grind (arith, nat_tests, held.group) in
      let is_first : (t == first_tag o.group rows) ≡ true = rw held.group (let e : (t == first) ≡ true = grind (arith, nat_tests, same) in e) in
      to_inner s o held t (ap (λ (t : ℕ). group_of t rows) same ∙ table.first) ∙ rw (test, is_first) refl

  step_inside : (s : State) (o : OpenGroup) → IsHeld s o → (t r : ℕ) → group_of t rows ≡ Some tag → (t == first) ≡ false → o.instance ≡ Some r
      → step header rows s t ≡ record { position = InPart r; state = record { begun = s.begun; outer = s.outer; inner = Some o } }
  step_inside s o held t r its later at =
      let test : (o.group == tag) ≡ true = grind (arith, nat_tests, held.group) in
      let not_first : (t == first_tag o.group rows) ≡ false = rw held.group later in
      to_inner s o held t its ∙ rw (test, not_first, at) refl

  -- it is so after a member, which continues an instance, or begins one
  stays : Stays header rows tag around q g table IsHeld
  stays = record {
    there = λ s o held. held.home;
    starts = λ s o held t same.
        let e = step_first s o held t same in (
          ap (λ (d : Stepped). d.position) e,
          subst (λ (d : Stepped). IsHeld d.state (begun_at (s.begun + 1) o)) (sym e) (record { inner = refl; group = held.group; home = held.home }),
        );
    goes = λ s o r held at t other. goes_on s o r held at t (place_of header rows tag around g table t other);
  }
    where
      goes_on : (s : State) (o : OpenGroup) (r : ℕ) → IsHeld s o → o.instance ≡ Some r → (t : ℕ)
          → ((t == first) ≡ false) × ((group_of t rows ≡ Some tag) ⊎ ((h : ℕ) × ((group_of t rows ≡ Some h) × ((group_of h rows ≡ Some tag) × (h ≡ tag → ⊥)))))
          → (group_of t rows ≡ Some tag → IsNoStray (step header rows s t).position) × IsHeld (step header rows s t).state o
      goes_on s o r held at t (later, inl its) =
          let e = step_inside s o held t r its later at in (
            (λ is. subst (λ (d : Stepped). IsNoStray d.position) (sym e) tt),
            subst (λ (d : Stepped). IsHeld d.state o) (sym e) (record { inner = refl; group = held.group; home = held.home }),
          )
      goes_on s o r held at t (later, inr deeper) = absurd (flat t deeper.0 deeper.1.0 deeper.1.1.0)

  -- Fields of which the first that shows a miscount shows this group's.

  -- the group around this one is another
  other_around : around ≡ tag → ⊥
  other_around same = not_outside header rows tag around q g table outside led around outside same

  -- a field other than the count and a stray member does not show it
  past : (all : List LocatedFields) (f : Entry) (x : FieldPosition) (next : Option ℕ) → (f.0 ≡ tag → ⊥) → IsPlace header rows tag around q g table (f, x) → or_next (miscounts rows all f x) next ≡ Some tag
      → IsNoStray x × (next ≡ Some tag)
  past all f x next other clear shown =
      let here = next_other (miscounts rows all f x) next tag (not_shown rows tag all f x (some_tag header rows tag around g table) ((λ same. absurd (other same)), clear)) shown in
      (stray_here rows all f x here.0, here.1)

  not_behind : (all : List LocatedFields) (fs : List Entry) (s : State) (earlier : List LocatedFields) → Kept s → AllSole (located header rows s fs) → twice earlier (located header rows s fs) ≡ None
      → has_tag tag (part q earlier) ≡ true → AllByRecursion (IsPlace header rows tag around q g table) (located header rows s fs) → miscounted rows all (located header rows s fs) ≡ Some tag → ⊥
  not_behind all [] s earlier was sole new found clear shown = none_some tag shown
  not_behind all (f ∷ fs) s earlier was sole new found clear shown =
      let p : LocatedFields = (f, (step header rows s f.0).position) in
      let ps = located header rows (step header rows s f.0).state fs in
      let each = cond_none (repeats f.0 p.1 earlier) f.0 (twice (earlier ++ p ∷ []) ps) new in
      elim (cases_eq f.0 tag) [
        | inl same ↦
            elim (at_count all f s was same) [
              | inl stated ↦
                  let wrong : or_next (Some around) (miscounted rows all ps) ≡ Some tag = rw stated at shown in
                  other_around (same_some around tag wrong)
              | inr opens ↦
                  let is_new : has_tag f.0 (part q earlier) ≡ false = rw opens.0 at each.0 in
                  true≢false (sym found ∙ ap (λ (t : ℕ). has_tag t (part q earlier)) (sym same) ∙ is_new)
            ]
        | inr other ↦
            let here = past all f p.1 (miscounted rows all ps) other clear.0 shown in
            not_behind all fs _ (earlier ++ p ∷ []) (next f fs s was sole here.0) (all_on f fs s sole) each.1 (has_before tag q earlier p found) clear.1 here.1
      ]

  -- The count with its instances, and some fields before it.
  module _ (all : List LocatedFields) (count : Entry) (is : List (List Entry)) (rest : List Entry) (its : count.0 ≡ g.count) (each : AllByRecursion (IsInstance g) is)
      (out : HasNo (is_member g) rest) (number : Emits (length is) count.1) where
    -- such fields do not show the miscount first, if all instances in the part begin after them
    abbrev IsClear : List Entry → Type 0
    IsClear fs = (s : State) (earlier : List LocatedFields) (front : List Entry) → Kept s → AllSole (located header rows s fs) → twice earlier (located header rows s fs) ≡ None
        → kept g fs ≡ front ++ count ∷ (chained is ++ rest) → HasNo (is_own g) front → begins first q all ≡ begins first q (located header rows s fs)
        → miscounted rows all (located header rows s fs) ≡ Some tag → ⊥

    -- the count
    from_count : (f : Entry) (fs : List Entry) (s : State) (earlier : List LocatedFields) → Kept s → AllSole (located header rows s (f ∷ fs)) → twice earlier (located header rows s (f ∷ fs)) ≡ None
        → f ≡ count → kept g fs ≡ chained is ++ rest → begins first q all ≡ begins first q (located header rows s (f ∷ fs))
        → miscounted rows all (located header rows s (f ∷ fs)) ≡ Some tag → ⊥
    from_count f fs s earlier was sole new this parts begun shown =
        let same : f.0 ≡ tag = ap (λ (e : Entry). e.0) this ∙ its ∙ table.of.count in
        let d = step header rows s f.0 in
        let p : LocatedFields = (f, d.position) in
        let ps = located header rows d.state fs in
        let fresh = cond_none (repeats f.0 d.position earlier) f.0 (twice (earlier ++ p ∷ []) ps) new in
        elim (at_count all f s was same) [
          | inl stated ↦
              let wrong : or_next (Some around) (miscounted rows all ps) ≡ Some tag = rw stated at shown in
              other_around (same_some around tag wrong)
          | inr opens ↦
              let held : IsHeld d.state (opening tag q) = record { inner = opens.1; group = refl; home = refl } in
              let placed_right = chain header rows tag around q g table IsHeld stays fs d.state (opening tag q) [] is rest held (inl refl) parts tt each out in
              let passed : begins first q (p ∷ ps) ≡ begins first q ps = ap (λ (x : FieldPosition). with_begin first q f.0 x (begins first q ps)) opens.0 in
              let many : length (begins first q all) ≡ length is = ap length (begun ∙ passed) ∙ placed_right.1 in
              let stated : emits (length (begins first q all)) f.1 ≡ true = rw (many, this) (stated_right (length is) count.1 number) in
              let right : is_wrong rows all q f.0 f.1 ≡ false = rw (same, stated) (and_false (is_count tag rows)) in
              let none : miscounts rows all f d.position ≡ None = rw (opens.0, right) refl in
              let on : miscounted rows all ps ≡ Some tag = rw none at shown in
              let self : (f.0 == tag) ≡ true = grind (arith, nat_tests, same) in
              let in_part : (q == q) ≡ true = grind (arith, nat_tests) in
              let found : has_tag tag (part q (p ∷ [])) ≡ true = rw (opens.0, in_part, self) refl in
              let clear : IsNoStray d.position = rw opens.0 tt in
              not_behind all fs d.state (earlier ++ p ∷ []) (next f fs s was sole clear) (all_on f fs s sole) fresh.1 (has_behind tag q earlier p found) placed_right.0 on
        ]

    -- a field before the count
    from_front : (f : Entry) (fs : List Entry) → IsClear fs → (s : State) (earlier : List LocatedFields) (front : List Entry) → Kept s → AllSole (located header rows s (f ∷ fs))
        → twice earlier (located header rows s (f ∷ fs)) ≡ None → is_own g f.0 ≡ false → kept g fs ≡ front ++ count ∷ (chained is ++ rest) → HasNo (is_own g) front
        → begins first q all ≡ begins first q (located header rows s (f ∷ fs)) → miscounted rows all (located header rows s (f ∷ fs)) ≡ Some tag → ⊥
    from_front f fs on s earlier front was sole new own parts before begun shown =
        let d = step header rows s f.0 in
        let p : LocatedFields = (f, d.position) in
        let ps = located header rows d.state fs in
        let fresh = cond_none (repeats f.0 d.position earlier) f.0 (twice (earlier ++ p ∷ []) ps) new in
        let member = not_member g f.0 own in
        let here = past all f d.position (miscounted rows all ps) other (λ its. absurd (no_member_in header rows tag around g table f.0 member its)) shown in
        let passed = with_other first q f.0 d.position (begins first q ps) (no_member_first header rows tag around g table f.0 member) in
        on d.state (earlier ++ p ∷ []) front (next f fs s was sole here.0) (all_on f fs s sole) fresh.1 parts before (begun ∙ passed) here.1
      where
        other : f.0 ≡ tag → ⊥
        other same = let test : (f.0 == tag) ≡ true = grind (arith, nat_tests, same) in true≢false (sym test ∙ not_tag header rows tag around g table f.0 own)

    from_named : (f : Entry) (fs : List Entry) → IsClear fs → (s : State) (earlier : List LocatedFields) (front : List Entry) → Kept s → AllSole (located header rows s (f ∷ fs))
        → twice earlier (located header rows s (f ∷ fs)) ≡ None → f ∷ kept g fs ≡ front ++ count ∷ (chained is ++ rest) → HasNo (is_own g) front
        → begins first q all ≡ begins first q (located header rows s (f ∷ fs)) → miscounted rows all (located header rows s (f ∷ fs)) ≡ Some tag → ⊥
    from_named f fs on s earlier [] was sole new parts before begun shown =
        from_count f fs s earlier was sole new (same_head f count _ _ parts) (same_tail f count _ _ parts) begun shown
    from_named f fs on s earlier (x ∷ front) was sole new parts before begun shown =
        from_front f fs on s earlier front was sole new (rw (same_head f x _ _ parts) before.0) (same_tail f x _ _ parts) before.1 begun shown

    whole : (fs : List Entry) → IsClear fs
    whole [] s earlier front was sole new parts before begun shown = none_some tag shown
    whole (f ∷ fs) s earlier front was sole new parts before begun shown =
        elim (cases_Bool (is_named g f.0)) [
          | inl named ↦
              let parts_on : f ∷ kept g fs ≡ front ++ count ∷ (chained is ++ rest) = rw named at parts in
              from_named f fs (whole fs) s earlier front was sole new parts_on before begun shown
          | inr unnamed ↦
              let parts_on : kept g fs ≡ front ++ count ∷ (chained is ++ rest) = rw unnamed at parts in
              from_front f fs (whole fs) s earlier front was sole new (not_own g f.0 unnamed) parts_on before begun shown
        ]

  -- fields that are a group do not have it as the first one that is miscounted
  pub not_refused : (fs : List Entry) → AllSole (located header rows start fs) → (is : List (List Entry)) → twice [] (located header rows start fs) ≡ None
      → miscounted rows (located header rows start fs) (located header rows start fs) ≡ Some tag → IsGroup g fs is → ⊥
  not_refused fs sole is new shown group =
      whole (located header rows start fs) group.count is group.rest group.tag group.each group.behind group.number fs start [] group.front
      (sound_start rows, (λ p n h same this. absurd (none_some p h))) sole new group.parts group.before refl shown

-- instances of which there are at most one are all the same one
at_most_one : (bs : List ℕ) → length bs ≤ 1 → (q : ℕ) × AreAll q bs
at_most_one [] h = (0, tt)
at_most_one (q ∷ []) h = (q, (refl, tt))
at_most_one (q ∷ r ∷ bs) h = absurd (omega (arith, h))

pub refused_inside : (fields : List Entry) (tag around : ℕ) (g : Group) → is_grouped (type_in fields) ≡ true → fault_in fields ≡ Some (Count tag)
    → group_of tag (rows_in fields) ≡ Some around → group_of around (rows_in fields) ≡ Some 0
    → length (begins (first_tag around (rows_in fields)) 0 (placed_in fields)) ≤ 1 → IsOfTable (rows_in fields) tag g → IsNoGroup g fields groups.Count
refused_inside fields tag around g grouped fault count outer one of =
    let rows = rows_in fields in
    let is_one = (named fields tag grouped fault).0 in
    let p = plain (type_in fields) grouped in
    let zero = unlike_numbers 0 tag (not_zero rows p.none tag around count) in
    let some = not_zero rows p.none around 0 outer in
    let other = unlike_numbers around tag (λ same. some (same_some 0 around (sym outer ∙ ap (λ (t : ℕ). group_of t rows) same ∙ count))) in
    let table = table_of rows p tag around g is_one count (rw (other, outer, zero) refl) of in
    let led : first_tag around rows ≡ tag → ⊥ = λ same.
    true≢false (sym is_one ∙ ap (λ (t : ℕ). is_count t rows) (sym same) ∙ led_of rows rows p.led tag around count) in
    let stated = count_stated header_rows rows (placed_in fields) fields tag (rw grouped at fault) in
    let all = at_most_one (begins (first_tag around rows) 0 (placed_in fields)) one in (
      present fields tag g grouped fault of,
      λ is group. not_refused header_rows rows tag around all.0 g table outer led (flat_of rows rows p.flat tag around count some) fields all.1 is stated.0 stated.1 group,
    )
