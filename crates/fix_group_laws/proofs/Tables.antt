-- The tables with groups.
use Rattle.std.proofs.Common.{◌≡◌, ℕ, ◌≤◌, length, map, filter, true, false, Bool, cond, ◌&&◌, ◌||◌, not, is_some, Option, List, [], ◌∷◌, refl, sym, ap, subst, ◌∙◌, arith, ◌==◌, Some, None, inl, inr}
use Rattle.std.specs.List.{AllByRecursion}
use Rattle.std.proofs.lemmas.Bool.Decides.{nat_tests}
use Rattle.std.proofs.lemmas.Bool.{cases_eq, true≢false}
use Rattle.fix_fields.specs.Fields.{Entry}
use Rattle.fix_fields.specs.Groups.{has}
use Rattle.fix_fields.specs.declared.group.Group.{Group}
use Rattle.fix_dictionary.specs.Kinds.{is_grouped}
use Rattle.fix_dictionary.specs.declared.kinds.MessageType.{MessageType}
use Rattle.fix_dictionary.specs.declared.kinds.MessageType.TheVariants as types
use Rattle.fix_validation.specs.declared.positions.State.{State}
use Rattle.fix_validation.specs.declared.faults.DictFault.{DictFault}
use Rattle.fix_validation.specs.declared.faults.DictFault.TheVariants.{Twice, Count}
use Rattle.fix_validation.specs.declared.table.Row.{Row}
use Rattle.fix_validation.specs.Stated.{some_or}
use Rattle.fix_validation.specs.Faults.{or_else}
use Rattle.fix_validation.specs.GroupFaults.{twice, miscounted, located_fault}
use Rattle.fix_validation.specs.Positions.{part, LocatedFields, group_of, first_tag, is_count, step, located, start, begins}
use Rattle.fix_validation.specs.Tables.{header_rows, quote_request_rows, rows_of}
use Rattle.fix_decoder.specs.Messages.{fault_in, placed_as, type_in}
use Rattle.fix_decoder.proofs.PlaceLemmas.{clean, count_range}
use Rattle.fix_decoder.proofs.QuoteRanges.{request_holds}
use Rattle.fix_group_laws.proofs.Alone.{alone}
use Rattle.fix_group_laws.specs.Tied.{stands_alone, IsOfTable, IsTied, is_counted, group_in, is_within, is_sibling, tags, rows_in, placed_in}
use Rattle.fix_group_laws.proofs.States.{NoStrays, none_some, same_some, unlike_numbers, sound_start}
use Rattle.fix_group_laws.proofs.Tags.{IsTable, not_zero}
use Rattle.fix_group_laws.proofs.Runs.{Shut, IsRun}
use Rattle.fix_group_laws.proofs.Chains.{fields_of}
use Rattle.fix_group_laws.proofs.Outer.{outer_run}
use Rattle.fix_group_laws.proofs.Inner.{inner_run}
use Rattle.fix_group_laws.proofs.Ties.{no_strays, tied}

-- the tags of the header are disjoint from those of the table
abbrev pub AreApart : List Row → List Row → Type 0
AreApart header rows = AllByRecursion (λ (r : Row). group_of r.tag rows ≡ None) header

pub apart_of : (header rows : List Row) → AreApart header rows → (t x : ℕ) → group_of t header ≡ Some x → group_of t rows ≡ None
apart_of [] rows h t x e = absurd (none_some x e)
apart_of (r ∷ rs) rows h t x e =
    elim (cases_eq r.tag t) [
      | inl same ↦ ap (λ (t : ℕ). group_of t rows) (sym same) ∙ h.0
      | inr other ↦
          let test : (r.tag == t) ≡ false = grind (arith, nat_tests, other) in
          apart_of rs rows h.1 t x (rw test at e)
    ]

-- each row is the first one with its tag
abbrev AreFirst : List Row → List Row → Type 0
AreFirst all rows = AllByRecursion (λ (r : Row). group_of r.tag all ≡ Some r.group) rows

first_of_group : (all rows : List Row) → AreFirst all rows → (tag : ℕ) → is_count tag rows ≡ true → group_of (first_tag tag rows) all ≡ Some tag
first_of_group all [] h tag counts = absurd (true≢false (sym counts))
first_of_group all (r ∷ rs) h tag counts =
    elim (cases_eq r.group tag) [
      | inl same ↦
          let test : (r.group == tag) ≡ true = grind (arith, nat_tests, same) in
          rw test (h.0 ∙ ap (λ (n : ℕ). Some n) same)
      | inr other ↦
          let test : (r.group == tag) ≡ false = grind (arith, nat_tests, other) in
          let on : is_count tag rs ≡ true = rw test at counts in
          rw test (first_of_group all rs h.1 tag on)
    ]

-- the first tag of each row's group is no count
abbrev pub AreLed : List Row → List Row → Type 0
AreLed all rows = AllByRecursion (λ (r : Row). is_count (first_tag r.group all) all ≡ false) rows

pub led_of : (all rows : List Row) → AreLed all rows → (tag around : ℕ) → group_of tag rows ≡ Some around → is_count (first_tag around all) all ≡ false
led_of all [] h tag around its = absurd (none_some around its)
led_of all (r ∷ rs) h tag around its =
    elim (cases_eq r.tag tag) [
      | inl same ↦
          let test : (r.tag == tag) ≡ true = grind (arith, nat_tests, same) in
          ap (λ (n : ℕ). is_count (first_tag n all) all) (sym (same_some r.group around (rw test at its))) ∙ h.0
      | inr other ↦
          let test : (r.tag == tag) ≡ false = grind (arith, nat_tests, other) in
          led_of all rs h.1 tag around (rw test at its)
    ]

-- the group of each row is 0, for none, or a count that is named
abbrev pub AreNamed : List Row → List Row → Type 0
AreNamed all rows = AllByRecursion (λ (r : Row). ((r.group == 0) || is_some (group_of r.group all)) ≡ true) rows

-- a group around a group is outside of groups
abbrev pub AreFlat : List Row → List Row → Type 0
AreFlat all rows = AllByRecursion (λ (r : Row). some_or 0 (group_of (some_or 0 (group_of r.group all)) all) ≡ 0) rows

-- Tags listed by rows.

-- the result of a test of tag and group for a tag
abbrev by_group : (ℕ → ℕ → Bool) → ℕ → Option ℕ → Bool
by_group test t None = false
by_group test t (Some group) = test t group

module _ (test : ℕ → ℕ → Bool) (all : List Row) where
  listed_with : (b : Bool) (u t : ℕ) (us : List ℕ) → (u == t) ≡ false → has (cond b (u ∷ us) us) t ≡ has us t
  listed_with true u t us other = rw other refl
  listed_with false u t us other = refl

  tags_with : (b : Bool) (r : Row) (rs : List Row) → map (λ (r : Row). r.tag) (cond b (r ∷ rs) rs) ≡ cond b (r.tag ∷ map (λ (r : Row). r.tag) rs) (map (λ (r : Row). r.tag) rs)
  tags_with true r rs = refl
  tags_with false r rs = refl

  -- a tag whose group fails the test is in no list of the table
  unlisted : (rs : List Row) → AreFirst all rs → (t group : ℕ) → group_of t all ≡ Some group → test t group ≡ false → has (tags test rs) t ≡ false
  unlisted [] firsts t group its out = refl
  unlisted (r ∷ rs) firsts t group its out =
      elim (cases_eq r.tag t) [
        | inl same ↦
            let of : r.group ≡ group = same_some r.group group (sym firsts.0 ∙ ap (λ (t : ℕ). group_of t all) same ∙ its) in
            let fails : test r.tag r.group ≡ false = ap (λ (t : ℕ). test t r.group) same ∙ ap (test t) of ∙ out in
            rw fails (unlisted rs firsts.1 t group its out)
        | inr other ↦
            let unlike : (r.tag == t) ≡ false = grind (arith, nat_tests, other) in
            ap (λ (l : List ℕ). has l t) (tags_with (test r.tag r.group) r (filter (λ (r : Row). test r.tag r.group) rs))
            ∙ listed_with (test r.tag r.group) r.tag t (tags test rs) unlike ∙ unlisted rs firsts.1 t group its out
      ]

  listed : (rs : List Row) → AreFirst all rs → (t : ℕ) → has (tags test rs) t ≡ by_group test t (group_of t rs)
  listed [] firsts t = refl
  listed (r ∷ rs) firsts t =
      elim (cases_eq r.tag t) [
        | inl same ↦
            let is : (r.tag == t) ≡ true = grind (arith, nat_tests, same) in
            let here : test r.tag r.group ≡ test t r.group = ap (λ (t : ℕ). test t r.group) same in
            ap (λ (l : List ℕ). has l t) (tags_with (test r.tag r.group) r (filter (λ (r : Row). test r.tag r.group) rs))
            ∙ rw is (at_row (test r.tag r.group) here is (λ out. unlisted rs firsts.1 t r.group (ap (λ (t : ℕ). group_of t all) (sym same) ∙ firsts.0) (sym here ∙ out)))
        | inr other ↦
            let unlike : (r.tag == t) ≡ false = grind (arith, nat_tests, other) in
            ap (λ (l : List ℕ). has l t) (tags_with (test r.tag r.group) r (filter (λ (r : Row). test r.tag r.group) rs))
            ∙ listed_with (test r.tag r.group) r.tag t (tags test rs) unlike ∙ rw unlike (listed rs firsts.1 t)
      ]
    where
      at_row : (b : Bool) → b ≡ test t r.group → (r.tag == t) ≡ true → (b ≡ false → has (tags test rs) t ≡ false)
          → has (cond b (r.tag ∷ tags test rs) (tags test rs)) t ≡ test t r.group
      at_row true e is out = rw (is, ← e) refl
      at_row false e is out = out refl ∙ e

-- what the tables with groups have in common
pub record IsPlain (rows : List Row) : Type 0 where
  pub apart : AreApart header_rows rows
  pub none : group_of 0 rows ≡ None
  firsts : AreFirst rows rows
  pub led : AreLed rows rows
  pub named : AreNamed rows rows
  pub flat : AreFlat rows rows

pub plain : (kind : MessageType) → is_grouped kind ≡ true → IsPlain (rows_of kind 0)
plain types.QuoteRequest h = record { apart = (refl, (refl, (refl, (refl, (refl, (refl, (refl, (refl, (refl, tt))))))))); none = refl; firsts = (refl, (refl, (refl, (refl, (refl, (refl, (refl, (refl, (refl, tt))))))))); led = (refl, (refl, (refl, (refl, (refl, (refl, (refl, (refl, (refl, tt))))))))); named = (refl, (refl, (refl, (refl, (refl, (refl, (refl, (refl, (refl, tt))))))))); flat = (refl, (refl, (refl, (refl, (refl, (refl, (refl, (refl, (refl, tt))))))))) }
plain types.Quote h = record { apart = (refl, (refl, (refl, (refl, (refl, (refl, (refl, (refl, (refl, tt))))))))); none = refl; firsts = (refl, (refl, (refl, (refl, (refl, (refl, (refl, (refl, (refl, (refl, (refl, (refl, (refl, tt))))))))))))); led = (refl, (refl, (refl, (refl, (refl, (refl, (refl, (refl, (refl, (refl, (refl, (refl, (refl, tt))))))))))))); named = (refl, (refl, (refl, (refl, (refl, (refl, (refl, (refl, (refl, (refl, (refl, (refl, (refl, tt))))))))))))); flat = (refl, (refl, (refl, (refl, (refl, (refl, (refl, (refl, (refl, (refl, (refl, (refl, (refl, tt))))))))))))) }
plain types.QuoteRequestReject h = record { apart = (refl, (refl, (refl, (refl, (refl, (refl, (refl, (refl, (refl, tt))))))))); none = refl; firsts = (refl, (refl, (refl, (refl, (refl, tt))))); led = (refl, (refl, (refl, (refl, (refl, tt))))); named = (refl, (refl, (refl, (refl, (refl, tt))))); flat = (refl, (refl, (refl, (refl, (refl, tt))))) }
plain types.NewOrderCross h = record { apart = (refl, (refl, (refl, (refl, (refl, (refl, (refl, (refl, (refl, tt))))))))); none = refl; firsts = (refl, (refl, (refl, (refl, (refl, (refl, (refl, (refl, (refl, (refl, tt)))))))))); led = (refl, (refl, (refl, (refl, (refl, (refl, (refl, (refl, (refl, (refl, tt)))))))))); named = (refl, (refl, (refl, (refl, (refl, (refl, (refl, (refl, (refl, (refl, tt)))))))))); flat = (refl, (refl, (refl, (refl, (refl, (refl, (refl, (refl, (refl, (refl, tt)))))))))) }
plain types.MarketDataRequest h = record { apart = (refl, (refl, (refl, (refl, (refl, (refl, (refl, (refl, (refl, tt))))))))); none = refl; firsts = (refl, (refl, (refl, (refl, (refl, (refl, (refl, tt))))))); led = (refl, (refl, (refl, (refl, (refl, (refl, (refl, tt))))))); named = (refl, (refl, (refl, (refl, (refl, (refl, (refl, tt))))))); flat = (refl, (refl, (refl, (refl, (refl, (refl, (refl, tt))))))) }
plain types.MarketDataSnapshot h = record { apart = (refl, (refl, (refl, (refl, (refl, (refl, (refl, (refl, (refl, tt))))))))); none = refl; firsts = (refl, (refl, (refl, (refl, (refl, (refl, (refl, tt))))))); led = (refl, (refl, (refl, (refl, (refl, (refl, (refl, tt))))))); named = (refl, (refl, (refl, (refl, (refl, (refl, (refl, tt))))))); flat = (refl, (refl, (refl, (refl, (refl, (refl, (refl, tt))))))) }
plain types.Heartbeat h = absurd (true≢false (sym h))
plain types.TestRequest h = absurd (true≢false (sym h))
plain types.ResendRequest h = absurd (true≢false (sym h))
plain types.Reject h = absurd (true≢false (sym h))
plain types.SequenceReset h = absurd (true≢false (sym h))
plain types.Logout h = absurd (true≢false (sym h))
plain types.Logon h = absurd (true≢false (sym h))
plain types.QuoteCancel h = absurd (true≢false (sym h))
plain types.QuoteResponse h = absurd (true≢false (sym h))
plain types.QuoteStatusReport h = absurd (true≢false (sym h))
plain types.NewOrderSingle h = absurd (true≢false (sym h))
plain types.OrderCancelRequest h = absurd (true≢false (sym h))
plain types.OrderCancelReplaceRequest h = absurd (true≢false (sym h))
plain types.ExecutionReport h = absurd (true≢false (sym h))
plain types.OrderCancelReject h = absurd (true≢false (sym h))
plain types.MarketDataRequestReject h = absurd (true≢false (sym h))
plain types.BusinessMessageReject h = absurd (true≢false (sym h))
plain types.Unsupported h = absurd (true≢false (sym h))

-- a group of a table
pub table_of : (rows : List Row) → IsPlain rows → (tag around : ℕ) (g : Group) → is_count tag rows ≡ true → group_of tag rows ≡ Some around
    → is_within rows tag (Some around) ≡ false → IsOfTable rows tag g → IsTable header_rows rows tag around g
table_of rows p tag around g is_one count beyond of =
    record { apart = apart_of header_rows rows p.apart; none = p.none; count = count; beyond = beyond; counts = is_one; first = first_of_group rows rows p.firsts tag is_one; of = of }

-- where no tag occurs twice, the fault is found after that test, and likewise where no count is wrong
none_twice : (o : Option ℕ) (next : Option DictFault) → is_counted (or_else Twice o next) ≡ true → (o ≡ None) × (is_counted next ≡ true)
none_twice None next h = (refl, h)
none_twice (Some tag) next h = absurd (true≢false (sym h))

none_wrong : (o : Option ℕ) (next : Option DictFault) → is_counted (or_else Count o next) ≡ true → o ≡ None
none_wrong None next h = refl
none_wrong (Some tag) next h = absurd (true≢false (sym h))

counted_of : (header rows : List Row) (ps : List LocatedFields) (fields : List Entry) → is_counted (located_fault header rows ps fields) ≡ true
    → (twice [] ps ≡ None) × (miscounted rows ps ps ≡ None)
unfolding located_fault
counted_of header rows ps fields h =
    let a = none_twice (twice [] ps) _ h in
    (a.0, none_wrong (miscounted rows ps ps) _ a.1)

-- the fields are those that are located
pub placed_fields : (header rows : List Row) (fs : List Entry) (s : State) → fields_of (located header rows s fs) ≡ fs
placed_fields header rows [] s = refl
placed_fields header rows (f ∷ fs) s = ap (λ (l : List Entry). f ∷ l) (placed_fields header rows fs (step header rows s f.0).state)

module _ (fields : List Entry) (grouped : is_grouped (type_in fields) ≡ true) (counted : is_counted (fault_in fields) ≡ true) where
  -- no tag occurs twice, and no count is wrong
  right : (twice [] (placed_in fields) ≡ None) × (miscounted (rows_in fields) (placed_in fields) (placed_in fields) ≡ None)
  right =
      let stated : is_counted (located_fault header_rows (rows_in fields) (placed_in fields) fields) ≡ true = rw grouped at counted in
      counted_of header_rows (rows_in fields) (placed_in fields) fields stated

  -- no field is a stray
  clear_of_strays : NoStrays (placed_in fields)
  clear_of_strays = no_strays (rows_in fields) (placed_in fields) (placed_in fields) right.1

  -- such fields are a group by the effect of each of them
  tied_in : (tag around home : ℕ) (g : Group) → IsTable header_rows (rows_in fields) tag around g → IsRun (rows_in fields) tag home g (placed_in fields) Shut 0
      → IsTied (rows_in fields) tag home g fields (placed_in fields)
  tied_in tag around home g table run =
      subst (λ (fs : List Entry). IsTied (rows_in fields) tag home g fs (placed_in fields)) (placed_fields header_rows (rows_in fields) fields start)
      (tied header_rows (rows_in fields) tag around home g table (placed_in fields) run right.0 right.1)

pub outside : (fields : List Entry) (tag : ℕ) (g : Group) → is_grouped (type_in fields) ≡ true → is_counted (fault_in fields) ≡ true
    → is_count tag (rows_in fields) ≡ true → group_of tag (rows_in fields) ≡ Some 0
    → IsOfTable (rows_in fields) tag g → IsTied (rows_in fields) tag 0 g fields (placed_in fields)
outside fields tag g grouped counted is_one count of =
    let rows = rows_in fields in
    let p = plain (type_in fields) grouped in
    let zero = unlike_numbers 0 tag (not_zero rows p.none tag 0 count) in
    let table = table_of rows p tag 0 g is_one count (rw (zero, p.none, zero) refl) of in
    tied_in fields grouped counted tag 0 0 g table
    (outer_run header_rows rows tag g table fields start Shut (sound_start rows) (λ p h same. none_some p h) (clear_of_strays fields grouped counted))

pub inside : (fields : List Entry) (tag around q : ℕ) (g : Group) → is_grouped (type_in fields) ≡ true → is_counted (fault_in fields) ≡ true
    → is_count tag (rows_in fields) ≡ true → group_of tag (rows_in fields) ≡ Some around → group_of around (rows_in fields) ≡ Some 0
    → begins (first_tag around (rows_in fields)) 0 (placed_in fields) ≡ q ∷ []
    → IsOfTable (rows_in fields) tag g → IsTied (rows_in fields) tag q g fields (placed_in fields)
inside fields tag around q g grouped counted is_one count outer sole of =
    let rows = rows_in fields in
    let p = plain (type_in fields) grouped in
    let zero = unlike_numbers 0 tag (not_zero rows p.none tag around count) in
    let other = unlike_numbers around tag (λ same. not_zero rows p.none around 0 outer (same_some 0 around (sym outer ∙ ap (λ (t : ℕ). group_of t rows) same ∙ count))) in
    let table = table_of rows p tag around g is_one count (rw (other, outer, zero) refl) of in
    let led : first_tag around rows ≡ tag → ⊥ = λ same.
    true≢false (sym is_one ∙ ap (λ (t : ℕ). is_count t rows) (sym same) ∙ led_of rows rows p.led tag around count) in
    tied_in fields grouped counted tag around q g table
    (inner_run header_rows rows tag around q g table outer led fields start Shut (sound_start rows) (λ p n h same this. absurd (none_some p h)) (λ o h same. none_some o h)
    (rw sole (refl, tt)) (clear_of_strays fields grouped counted))

one_of : (qs : List ℕ) → (1 ≤ length qs) × (length qs ≤ 1) → (q : ℕ) × (qs ≡ q ∷ [])
one_of [] h = absurd (omega (arith, h.0))
one_of (q ∷ []) h = (q, refl)
one_of (q ∷ r ∷ rs) h = absurd (omega (arith, h.1))

pub sole : (fields : List Entry) → type_in fields ≡ types.QuoteRequest → fault_in fields ≡ None
    → (q : ℕ) × (begins (first_tag 146 (rows_in fields)) 0 (placed_in fields) ≡ q ∷ [])
sole fields kind clear =
    let ps = placed_as types.QuoteRequest fields in
    let held = clean header_rows quote_request_rows fields (rw kind at clear) in
    rw kind (one_of (begins 55 0 ps) (count_range header_rows quote_request_rows ps held 146 0 1 1 refl _ refl (request_holds ps held).1.0))

pub listed_group : (fields : List Entry) (tag : ℕ) → is_grouped (type_in fields) ≡ true → IsOfTable (rows_in fields) tag (group_in (rows_in fields) tag)
listed_group fields tag grouped =
    let rows = rows_in fields in
    let p = plain (type_in fields) grouped in
    record {
      count = refl;
      first = refl;
      others = λ t. listed (λ t group. is_within rows tag (Some group) && not (t == first_tag tag rows)) rows rows p.firsts t ∙ other t (group_of t rows);
      outside = λ t. listed (λ t group. is_sibling rows tag t (Some group)) rows rows p.firsts t ∙ sibling t (group_of t rows);
    }
  where
    other : (t : ℕ) (w : Option ℕ) → by_group (λ t group. is_within (rows_in fields) tag (Some group) && not (t == first_tag tag (rows_in fields))) t w
        ≡ (is_within (rows_in fields) tag w && not (t == first_tag tag (rows_in fields)))
    other t None = refl
    other t (Some group) = refl

    sibling : (t : ℕ) (w : Option ℕ) → by_group (λ t group. is_sibling (rows_in fields) tag t (Some group)) t w ≡ is_sibling (rows_in fields) tag t w
    sibling t None = refl
    sibling t (Some group) = refl

pub outside_of_groups : (fields : List Entry) → is_grouped (type_in fields) ≡ true → is_counted (fault_in fields) ≡ true
    → part 0 (placed_in fields) ≡ filter (λ (f : Entry). stands_alone (rows_in fields) f.0) fields
outside_of_groups fields grouped counted =
    alone (rows_in fields) (plain (type_in fields) grouped).none fields start (sound_start (rows_in fields)) (clear_of_strays fields grouped counted)
