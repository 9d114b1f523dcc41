-- A group of a table is the group of the fields.
use Rattle.std.proofs.Common.{◌≡◌, ℕ, ◌≤◌, ◌<◌, true, false, Bool, List, [], ◌∷◌, ◌++◌, map, length, refl, sym, ap, subst, ◌∙◌, arith, cond, ◌==◌, ◌&&◌, ◌||◌, not, Option, Some, None, inl, inr, ◌⊎◌, Ok, Err, Result}
use Rattle.std.specs.List.{AllByRecursion}
use Rattle.std.proofs.lemmas.Bool.Decides.{nat_tests}
use Rattle.std.proofs.lemmas.List.{length-map}
use Rattle.std.proofs.lemmas.Bool.{cases_Bool, or_parts, true≢false}
use Rattle.fix_fields.specs.Fields.{Entry}
use Rattle.fix_fields.specs.Groups.{has, is_member, is_own, is_named, kept, HasNo, IsInstance, Emits, chained}
use Rattle.fix_fields.specs.GroupParts.{emits, is_read_as}
use Rattle.fix_fields.specs.declared.value.ValueFault.{ValueFault}
use Rattle.fix_fields.specs.declared.group.Group.{Group}
use Rattle.fix_validation.specs.declared.table.Row.{Row}
use Rattle.fix_validation.specs.declared.positions.FieldPosition.{FieldPosition}
use Rattle.fix_validation.specs.declared.positions.FieldPosition.TheVariants.{Unknown, InPart, Begins, Misplaced}
use Rattle.fix_validation.specs.Stated.{some_or}
use Rattle.fix_validation.specs.Faults.{has_tag}
use Rattle.fix_validation.specs.GroupFaults.{repeats, twice, is_wrong, miscounts, miscounted, or_next}
use Rattle.fix_validation.specs.Positions.{LocatedFields, group_of, first_tag, is_count, is_in, part, begins, with_begin}
use Rattle.fix_decoder.proofs.HoldLemmas.{cond_none, some_not_none}
use Rattle.fix_decoder.proofs.LookLemmas.{has_tag_append}
use Rattle.fix_group_laws.specs.Tied.{IsTied, in_itself}
use Rattle.fix_group_laws.proofs.States.{IsNoStray, NoStrays, or_true}
use Rattle.fix_group_laws.proofs.Tags.{IsTable, named_count, no_member, first_member}
use Rattle.fix_group_laws.proofs.Runs.{Status, Shut, IsQuiet, skips, leaves, counts, starts, goes, IsRun}
use Rattle.fix_group_laws.proofs.Chains.{fields_of, past, later_still, not_own, Behind, behind_count}

-- The facts of located fields in which a table finds no fault.

next_none : (a b : Option ℕ) → or_next a b ≡ None → (a ≡ None) × (b ≡ None)
next_none None b h = (refl, h)
next_none (Some tag) b h = absurd (some_not_none tag h)

pub stray_here : (rows : List Row) (all : List LocatedFields) (f : Entry) (x : FieldPosition) → miscounts rows all f x ≡ None → IsNoStray x
stray_here rows all f Unknown h = tt
stray_here rows all f (InPart q) h = tt
stray_here rows all f (Begins q around) h = tt
stray_here rows all f (Misplaced q) h = some_not_none (some_or 0 (group_of f.0 rows)) h

pub no_strays : (rows : List Row) (all ps : List LocatedFields) → miscounted rows all ps ≡ None → NoStrays ps
no_strays rows all [] h = tt
no_strays rows all (p ∷ ps) h =
    let each = next_none (miscounts rows all p.0 p.1) (miscounted rows all ps) h in
    (stray_here rows all p.0 p.1 each.0, no_strays rows all ps each.1)

-- a count in the part is this number of instances
abbrev IsCounted : ℕ → ℕ → ℕ → LocatedFields → Type 0
IsCounted tag home many p = p.0.0 ≡ tag → p.1 ≡ InPart home → emits many p.0.1 ≡ true

right_count : (a b : Bool) → (a && not b) ≡ false → a ≡ true → b ≡ true
right_count true true h k = refl
right_count true false h k = absurd (true≢false h)
right_count false b h k = absurd (true≢false (sym k))

counted : (rows : List Row) (tag home : ℕ) (all ps : List LocatedFields) → is_count tag rows ≡ true → miscounted rows all ps ≡ None
    → AllByRecursion (IsCounted tag home (length (begins (first_tag tag rows) home all))) ps
counted rows tag home all [] its_count h = tt
counted rows tag home all (p ∷ ps) its_count h =
    let each = next_none (miscounts rows all p.0 p.1) (miscounted rows all ps) h in
    (here each.0, counted rows tag home all ps its_count each.1)
  where
    here : miscounts rows all p.0 p.1 ≡ None → IsCounted tag home (length (begins (first_tag tag rows) home all)) p
    here none same stands =
        let within : miscounts rows all p.0 (InPart home) ≡ None = rw stands at none in
        let right = (cond_none (is_wrong rows all home p.0.0 p.0.1) p.0.0 None within).0 in
        let its : is_wrong rows all home tag p.0.1 ≡ false = rw same at right in
        right_count (is_count tag rows) (emits (length (begins (first_tag tag rows) home all)) p.0.1) its its_count

-- after a field with the tag there is no other one
abbrev pub IsOnce : ℕ → List Entry → Type 0
IsOnce tag [] = Unit {0}
IsOnce tag (f ∷ fs) = ((f.0 == tag) ≡ true → has_tag tag fs ≡ false) × IsOnce tag fs

pub part_append : (q : ℕ) (ps others : List LocatedFields) → part q (ps ++ others) ≡ part q ps ++ part q others
part_append q [] others = refl
part_append q (p ∷ ps) others = kept_in (is_in q p.1) p.0 (part q ps) (part q others) (part q (ps ++ others)) (part_append q ps others)
  where
    kept_in : (b : Bool) (f : Entry) (fs gs all : List Entry) → all ≡ fs ++ gs → cond b (f ∷ all) all ≡ cond b (f ∷ fs) fs ++ gs
    kept_in true f fs gs all e = ap (λ (l : List Entry). f ∷ l) e
    kept_in false f fs gs all e = e

module _ (header rows : List Row) (tag around home : ℕ) (g : Group) (table : IsTable header rows tag around g) where
  -- the count is in its part
  abbrev pub IsHome : LocatedFields → Type 0
  IsHome p = p.0.0 ≡ tag → p.1 ≡ InPart home

  -- it is so in a run
  homes : (ps : List LocatedFields) (was : Status) (n : ℕ) → IsRun rows tag home g ps was n → AllByRecursion IsHome ps
  homes [] was n run = tt
  homes (p ∷ ps) was n run =
      elim run [
        | skips unnamed out quiet rest ↦ ((λ same. absurd (true≢false (sym named ∙ ap (is_named g) (sym same) ∙ unnamed))), homes ps _ _ rest)
        | leaves m le out gone quiet rest ↦ ((λ same. absurd (true≢false (sym owned ∙ ap (is_own g) (sym same) ∙ out))), homes ps _ _ rest)
        | counts same stands le rest ↦ ((λ same. stands), homes ps _ _ rest)
        | starts is_open same stands gone rest ↦ ((λ is. absurd (true≢false (sym starting ∙ ap (is_member g) (sym same ∙ is) ∙ none))), homes ps _ _ rest)
        | goes m le its other same quiet rest ↦ ((λ is. absurd (true≢false (sym other ∙ ap (has g.others.now) is ∙ (or_parts (tag == g.first) (has g.others.now tag) none).1))), homes ps _ _ rest)
      ]
    where
      named : is_named g tag ≡ true
      named = named_count header rows tag around g table

      none : is_member g tag ≡ false
      none = no_member header rows tag around g table

      starting : is_member g (first_tag tag rows) ≡ true
      starting = first_member header rows tag around g table

      owned : is_own g tag ≡ true
      owned = let test : (tag == g.count) ≡ true = grind (arith, nat_tests, table.of.count) in rw test refl

  pub once : (ps earlier : List LocatedFields) → AllByRecursion IsHome ps → twice earlier ps ≡ None
      → IsOnce tag (fields_of ps) × (has_tag tag (part home earlier) ≡ true → has_tag tag (fields_of ps) ≡ false)
  once [] earlier stands h = (tt, λ found. refl)
  once (p ∷ ps) earlier stands h =
      let each = cond_none (repeats p.0.0 p.1 earlier) p.0.0 (twice (earlier ++ p ∷ []) ps) h in
      let rest = once ps (earlier ++ p ∷ []) stands.1 each.1 in
      let joined : has_tag tag (part home (earlier ++ p ∷ [])) ≡ (has_tag tag (part home earlier) || has_tag tag (part home (p ∷ []))) =
      ap (has_tag tag) (part_append home earlier (p ∷ [])) ∙ has_tag_append tag (part home earlier) (part home (p ∷ [])) in
      ((λ is. rest.1 (joined ∙ here is), rest.0), λ found. by_tag each.0 rest.1 found (rw found at joined) (cases_Bool (p.0.0 == tag)))
    where
      same_tag : (p.0.0 == tag) ≡ true → p.0.0 ≡ tag
      same_tag is = grind (arith, nat_tests, is)

      here : (p.0.0 == tag) ≡ true → (has_tag tag (part home earlier) || has_tag tag (part home (p ∷ []))) ≡ true
      here is = let self : (home == home) ≡ true = grind (arith, nat_tests) in rw (stands.0 (same_tag is), self, is) (or_true (has_tag tag (part home earlier)))

      by_tag : repeats p.0.0 p.1 earlier ≡ false → (has_tag tag (part home (earlier ++ p ∷ [])) ≡ true → has_tag tag (fields_of ps) ≡ false)
          → has_tag tag (part home earlier) ≡ true → has_tag tag (part home (earlier ++ p ∷ [])) ≡ true
          → ((p.0.0 == tag) ≡ true) ⊎ ((p.0.0 == tag) ≡ false) → ((p.0.0 == tag) || has_tag tag (fields_of ps)) ≡ false
      by_tag new rest found found_on (inl is) =
          let at : has_tag p.0.0 (part home earlier) ≡ false = rw (stands.0 (same_tag is)) at new in
          let other : has_tag tag (part home earlier) ≡ false = rw (same_tag is) at at in
          absurd (true≢false (sym found ∙ other))
      by_tag new rest found found_on (inr other) = rw other (rest found_on)

  -- The fields are some before the count, the count, instances in order, and some after them.
  record Found (n many : ℕ) (ps : List LocatedFields) : Type 0 where
    front : List Entry
    count : Entry
    is : List (List Entry)
    rest : List Entry
    parts : kept g (fields_of ps) ≡ front ++ count ∷ (chained is ++ rest)
    before : HasNo (is_own g) front
    its : count.0 ≡ g.count
    each : AllByRecursion (IsInstance g) is
    behind : HasNo (is_member g) rest
    stated : emits many count.1 ≡ true
    there : map (in_itself rows tag) is ≡ map (λ (b : ℕ). part b ps) (begins (first_tag tag rows) home ps)
    later : AllByRecursion (λ (b : ℕ). n < b) (begins (first_tag tag rows) home ps)

  -- or no field has a tag of the group
  abbrev IsThere : ℕ → ℕ → List LocatedFields → Type 0
  IsThere n many ps = (HasNo (is_own g) (fields_of ps) × (begins (first_tag tag rows) home ps ≡ [])) ⊎ Found n many ps

  front_of : (b : Bool) (f : Entry) (all front rest : List Entry) → all ≡ front ++ rest → cond b (f ∷ all) all ≡ cond b (f ∷ front) front ++ rest
  front_of true f all front rest e = ap (λ (l : List Entry). f ∷ l) e
  front_of false f all front rest e = e

  front_without : (b : Bool) (f : Entry) (front : List Entry) → is_own g f.0 ≡ false → HasNo (is_own g) front → HasNo (is_own g) (cond b (f ∷ front) front)
  front_without true f front h k = (h, k)
  front_without false f front h k = k

  -- a field before the count
  before : (n m many : ℕ) (p : LocatedFields) (ps : List LocatedFields) → n ≤ m → is_own g p.0.0 ≡ false → IsQuiet rows tag home m p → IsThere m many ps → IsThere n many (p ∷ ps)
  before n m many p ps le other quiet (inl none) = inl ((other, none.0), quiet.1 _ ∙ none.1)
  before n m many p ps le other quiet (inr found) =
      let bs = begins (first_tag tag rows) home ps in
      inr (record {
        front = cond (is_named g p.0.0) (p.0 ∷ found.front) found.front;
        count = found.count;
        is = found.is;
        rest = found.rest;
        parts = front_of (is_named g p.0.0) p.0 (kept g (fields_of ps)) found.front (found.count ∷ (chained found.is ++ found.rest)) found.parts;
        before = front_without (is_named g p.0.0) p.0 found.front other found.before;
        its = found.its;
        each = found.each;
        behind = found.behind;
        stated = found.stated;
        there = rw (quiet.1 bs) (found.there ∙ past p m ps bs found.later quiet.0);
        later = rw (quiet.1 bs) (later_still n m bs le found.later);
      })

  -- the count
  at_count : (n many : ℕ) (p : LocatedFields) (ps : List LocatedFields) → p.0.0 ≡ tag → p.1 ≡ InPart home → home ≤ n → emits many p.0.1 ≡ true
      → Behind rows tag home g n ps → IsThere n many (p ∷ ps)
  at_count n many p ps same stands le stated c =
      let bs = begins (first_tag tag rows) home ps in
      let test : (p.0.0 == g.count) ≡ true = grind (arith, nat_tests, same, table.of.count) in
      let out : (b : ℕ) → n < b → is_in b p.1 ≡ false = λ b h. rw stands (let e : (home == b) ≡ false = grind (arith, nat_tests, le, h) in e) in
      let passes : with_begin (first_tag tag rows) home p.0.0 p.1 bs ≡ bs = rw stands refl in
      inr (record {
        front = [];
        count = p.0;
        is = c.is;
        rest = c.rest;
        parts = rw test (ap (λ (l : List Entry). p.0 ∷ l) c.parts);
        before = tt;
        its = same ∙ sym table.of.count;
        each = c.each;
        behind = c.behind;
        stated = stated;
        there = rw passes (c.there ∙ past p n ps bs c.later out);
        later = rw passes c.later;
      })

  find : (many : ℕ) (ps : List LocatedFields) (n : ℕ) → IsRun rows tag home g ps Shut n → IsOnce tag (fields_of ps) → AllByRecursion (IsCounted tag home many) ps → IsThere n many ps
  find many [] n run single right = inl (tt, refl)
  find many (p ∷ ps) n run single right =
      elim run [
        | skips unnamed out quiet rest ↦ before n n many p ps (grind (arith)) (not_own g p.0.0 unnamed) quiet (find many ps n rest single.1 right.1)
        | leaves m le out gone quiet rest ↦ before n m many p ps le out quiet (find many ps m rest single.1 right.1)
        | counts same stands le rest ↦
            let test : (p.0.0 == tag) ≡ true = grind (arith, nat_tests, same) in
            at_count n many p ps same stands le (right.0 same stands) (behind_count header rows tag around home g table ps n rest (single.0 test))
        | starts is_open same stands gone rest ↦ absurd is_open
        | goes m le named other same quiet rest ↦ absurd same
      ]

  number_of : (n : ℕ) (r : Result ℕ ValueFault) → is_read_as n r ≡ true → r ≡ Ok n
  number_of n (Ok m) h = let same : m ≡ n = grind (arith, nat_tests, h) in ap (λ (k : ℕ). Ok k) same
  number_of n (Err fault) h = absurd (true≢false (sym h))

  pub tied : (ps : List LocatedFields) → IsRun rows tag home g ps Shut 0 → twice [] ps ≡ None → miscounted rows ps ps ≡ None → IsTied rows tag home g (fields_of ps) ps
  tied ps run new right =
      let bs = begins (first_tag tag rows) home ps in
      by_place (find (length bs) ps 0 run (once ps [] (homes ps Shut 0 run) new).0 (counted rows tag home ps ps table.counts right))
    where
      by_place : IsThere 0 (length (begins (first_tag tag rows) home ps)) ps → IsTied rows tag home g (fields_of ps) ps
      by_place (inl none) = inl (none.0, rw none.1 refl)
      by_place (inr found) =
          let bs = begins (first_tag tag rows) home ps in
          let many : length bs ≡ length found.is = sym (length-map bs (λ (b : ℕ). part b ps)) ∙ sym (ap length found.there) ∙ length-map found.is (in_itself rows tag) in
          inr (
            found.is,
            (
              record {
                front = found.front;
                count = found.count;
                rest = found.rest;
                parts = found.parts;
                before = found.before;
                tag = found.its;
                each = found.each;
                behind = found.behind;
                number = subst (λ (n : ℕ). Emits n found.count.1) many (number_of (length bs) _ found.stated);
              },
              found.there,
            ),
          )
