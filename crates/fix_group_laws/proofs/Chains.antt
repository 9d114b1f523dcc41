-- The fields after a group's count, as instances in order, and the parts that hold them.
use Rattle.std.proofs.Common.{◌≡◌, ℕ, ◌+◌, ◌≤◌, ◌<◌, true, false, Bool, List, [], ◌∷◌, ◌++◌, append_assoc, map, refl, sym, ap, ◌∙◌, arith, cond, ◌==◌}
use Rattle.std.specs.List.{AllByRecursion}
use Rattle.std.proofs.lemmas.Bool.Decides.{nat_tests}
use Rattle.std.proofs.lemmas.Bool.{or_parts, true≢false}
use Rattle.fix_fields.specs.Fields.{Entry}
use Rattle.fix_fields.specs.Groups.{has, is_member, is_own, is_named, kept, HasNo, IsInstance, chained}
use Rattle.fix_fields.specs.declared.group.Group.{Group}
use Rattle.fix_validation.specs.declared.table.Row.{Row}
use Rattle.fix_validation.specs.declared.positions.FieldPosition.TheVariants.{Begins}
use Rattle.fix_validation.specs.Faults.{has_tag}
use Rattle.fix_validation.specs.Positions.{LocatedFields, group_of, first_tag, is_in, part, begins, with_begin}
use Rattle.fix_group_laws.specs.Tied.{stands_in, in_itself}
use Rattle.fix_group_laws.proofs.Tags.{IsTable, first_named, first_stands}
use Rattle.fix_group_laws.proofs.Runs.{Shut, Counted, Inside, IsQuiet, skips, leaves, counts, starts, goes, IsRun}

-- the fields without their positions
abbrev pub fields_of : List LocatedFields → List Entry
fields_of [] = []
fields_of (p ∷ ps) = p.0 ∷ fields_of ps

-- a field dropped from both lists, or kept in both
pub both_or_none : (b c : Bool) (f : Entry) (xs ys : List Entry) → b ≡ c → xs ≡ ys → cond b (f ∷ xs) xs ≡ cond c (f ∷ ys) ys
both_or_none b c f xs ys same rest = rw (same, rest) refl

-- parts without a field
pub past : (x : LocatedFields) (n : ℕ) (ps : List LocatedFields) (bs : List ℕ) → AllByRecursion (λ (b : ℕ). n < b) bs → ((b : ℕ) → n < b → is_in b x.1 ≡ false)
    → map (λ (b : ℕ). part b ps) bs ≡ map (λ (b : ℕ). part b (x ∷ ps)) bs
past x n ps [] later out = refl
past x n ps (b ∷ bs) later out =
    let this : part b ps ≡ part b (x ∷ ps) = rw (out b later.0) refl in
    ap (λ (l : List Entry). l ∷ map (λ (b : ℕ). part b ps) bs) this ∙ ap (λ (m : List (List Entry)). part b (x ∷ ps) ∷ m) (past x n ps bs later.1 out)

pub later_still : (n m : ℕ) (bs : List ℕ) → n ≤ m → AllByRecursion (λ (b : ℕ). m < b) bs → AllByRecursion (λ (b : ℕ). n < b) bs
later_still n m [] le h = tt
later_still n m (b ∷ bs) le h = (grind (arith, le, h.0), later_still n m bs le h.1)

-- kept fields have no tag that no field has
kept_with : (test : ℕ → Bool) (b : Bool) (f : Entry) (fs : List Entry) → test f.0 ≡ false → HasNo test fs → HasNo test (cond b (f ∷ fs) fs)
kept_with test true f fs h k = (h, k)
kept_with test false f fs h k = k

kept_without : (g : Group) (test : ℕ → Bool) (fs : List Entry) → HasNo test fs → HasNo test (kept g fs)
kept_without g test [] h = tt
kept_without g test (f ∷ fs) h = kept_with test (is_named g f.0) f (kept g fs) h.0 (kept_without g test fs h.1)

-- a tag that is not named is not the group's, and one that is not its own is not a member
pub not_own : (g : Group) (t : ℕ) → is_named g t ≡ false → is_own g t ≡ false
not_own g t unnamed = (or_parts (is_own g t) (has g.outside.now t) unnamed).0

pub not_member : (g : Group) (t : ℕ) → is_own g t ≡ false → is_member g t ≡ false
not_member g t out = (or_parts (t == g.count) (is_member g t) out).1

-- Fields after the beginning of an instance: some in it, instances in order, and some after them that are not members.
-- The parts are the fields of these in the group itself, and the parts that begin are new ones.
record Chain (rows : List Row) (tag home : ℕ) (g : Group) (n q : ℕ) (ps : List LocatedFields) : Type 0 where
  pre : List Entry
  is : List (List Entry)
  rest : List Entry
  parts : kept g (fields_of ps) ≡ pre ++ (chained is ++ rest)
  others : AllByRecursion (λ (e : Entry). has g.others.now e.0 ≡ true) pre
  each : AllByRecursion (IsInstance g) is
  behind : HasNo (is_member g) rest
  here : in_itself rows tag pre ≡ part q ps
  there : map (in_itself rows tag) is ≡ map (λ (b : ℕ). part b ps) (begins (first_tag tag rows) home ps)
  later : AllByRecursion (λ (b : ℕ). n < b) (begins (first_tag tag rows) home ps)

-- The same where no instance has begun yet, or the field that begins the next one is the first.
pub record Behind (rows : List Row) (tag home : ℕ) (g : Group) (n : ℕ) (ps : List LocatedFields) : Type 0 where
  pub is : List (List Entry)
  pub rest : List Entry
  pub parts : kept g (fields_of ps) ≡ chained is ++ rest
  pub each : AllByRecursion (IsInstance g) is
  pub behind : HasNo (is_member g) rest
  pub there : map (in_itself rows tag) is ≡ map (λ (b : ℕ). part b ps) (begins (first_tag tag rows) home ps)
  pub later : AllByRecursion (λ (b : ℕ). n < b) (begins (first_tag tag rows) home ps)

module _ (header rows : List Row) (tag around home : ℕ) (g : Group) (table : IsTable header rows tag around g) where
  -- a field that is not the count
  not_count : (t : ℕ) → (t == tag) ≡ false → t ≡ tag → ⊥
  not_count t other same =
      let test : (t == tag) ≡ true = grind (arith, nat_tests, same) in
      true≢false (sym test ∙ other)

  -- Where the group is not open.

  shut_step : (p : LocatedFields) (ps : List LocatedFields) (n : ℕ) → is_own g p.0.0 ≡ false → IsQuiet rows tag home n p
      → HasNo (is_member g) (fields_of ps) × (begins (first_tag tag rows) home ps ≡ [])
      → HasNo (is_member g) (fields_of (p ∷ ps)) × (begins (first_tag tag rows) home (p ∷ ps) ≡ [])
  shut_step p ps n out quiet rest = ((not_member g p.0.0 out, rest.0), quiet.1 _ ∙ rest.1)

  shut : (ps : List LocatedFields) (n : ℕ) → IsRun rows tag home g ps Shut n → has_tag tag (fields_of ps) ≡ false
      → HasNo (is_member g) (fields_of ps) × (begins (first_tag tag rows) home ps ≡ [])
  shut [] n run once = (tt, refl)
  shut (p ∷ ps) n run once =
      let tags = or_parts (p.0.0 == tag) (has_tag tag (fields_of ps)) once in
      elim run [
        | skips unnamed out quiet rest ↦ shut_step p ps n (not_own g p.0.0 unnamed) quiet (shut ps n rest tags.1)
        | leaves m le out gone quiet rest ↦ shut_step p ps m out quiet (shut ps m rest tags.1)
        | counts same stands le rest ↦ absurd (not_count p.0.0 tags.0 same)
        | starts is_open same stands gone rest ↦ absurd is_open
        | goes m le named other same quiet rest ↦ absurd same
      ]

  -- Where the group is open.

  -- an ignored field
  skipped : (n q : ℕ) (p : LocatedFields) (ps : List LocatedFields) → is_named g p.0.0 ≡ false → is_in q p.1 ≡ false → IsQuiet rows tag home n p
      → Chain rows tag home g n q ps → Chain rows tag home g n q (p ∷ ps)
  skipped n q p ps unnamed out quiet c =
      let bs = begins (first_tag tag rows) home ps in
      record {
        pre = c.pre;
        is = c.is;
        rest = c.rest;
        parts = rw unnamed c.parts;
        others = c.others;
        each = c.each;
        behind = c.behind;
        here = rw out c.here;
        there = rw (quiet.1 bs) (c.there ∙ past p n ps bs c.later quiet.0);
        later = rw (quiet.1 bs) c.later;
      }

  skipped_behind : (n : ℕ) (p : LocatedFields) (ps : List LocatedFields) → is_named g p.0.0 ≡ false → IsQuiet rows tag home n p
      → Behind rows tag home g n ps → Behind rows tag home g n (p ∷ ps)
  skipped_behind n p ps unnamed quiet c =
      let bs = begins (first_tag tag rows) home ps in
      record {
        is = c.is;
        rest = c.rest;
        parts = rw unnamed c.parts;
        each = c.each;
        behind = c.behind;
        there = rw (quiet.1 bs) (c.there ∙ past p n ps bs c.later quiet.0);
        later = rw (quiet.1 bs) c.later;
      }

  -- a field of the instance, or of a group in it
  joined : (n m q : ℕ) (p : LocatedFields) (ps : List LocatedFields) → n ≤ m → is_named g p.0.0 ≡ true → has g.others.now p.0.0 ≡ true
      → stands_in tag (group_of p.0.0 rows) ≡ is_in q p.1 → IsQuiet rows tag home m p
      → Chain rows tag home g m q ps → Chain rows tag home g n q (p ∷ ps)
  joined n m q p ps le named other same quiet c =
      let bs = begins (first_tag tag rows) home ps in
      record {
        pre = p.0 ∷ c.pre;
        is = c.is;
        rest = c.rest;
        parts = rw named (ap (λ (l : List Entry). p.0 ∷ l) c.parts);
        others = (other, c.others);
        each = c.each;
        behind = c.behind;
        here = both_or_none _ _ p.0 _ _ same c.here;
        there = rw (quiet.1 bs) (c.there ∙ past p m ps bs c.later quiet.0);
        later = rw (quiet.1 bs) (later_still n m bs le c.later);
      }

  -- an instance that has ended
  over : (n q : ℕ) (ps : List LocatedFields) → part q ps ≡ [] → Behind rows tag home g n ps → Chain rows tag home g n q ps
  over n q ps gone b = record { pre = []; is = b.is; rest = b.rest; parts = b.parts; others = tt; each = b.each; behind = b.behind; here = sym gone; there = b.there; later = b.later }

  -- the field that begins the next instance
  begun : (n : ℕ) (p : LocatedFields) (ps : List LocatedFields) → p.0.0 ≡ first_tag tag rows → p.1 ≡ Begins (n + 1) home
      → Chain rows tag home g (n + 1) (n + 1) ps → Behind rows tag home g n (p ∷ ps)
  begun n p ps same starting c =
      let bs = begins (first_tag tag rows) home ps in
      let named : is_named g p.0.0 ≡ true = rw same (first_named header rows tag around g table) in
      let stands : stands_in tag (group_of p.0.0 rows) ≡ true = rw same (first_stands header rows tag around g table) in
      let test : (p.0.0 == first_tag tag rows) ≡ true = grind (arith, nat_tests, same) in
      let self : (n + 1 == n + 1) ≡ true = grind (arith, nat_tests) in
      let in_home : (home == home) ≡ true = grind (arith, nat_tests) in
      let begin : with_begin (first_tag tag rows) home p.0.0 p.1 bs ≡ (n + 1) ∷ bs = rw (starting, test, in_home) refl in
      let this : in_itself rows tag (p.0 ∷ c.pre) ≡ part (n + 1) (p ∷ ps) = rw (stands, starting, self) (ap (λ (l : List Entry). p.0 ∷ l) c.here) in
      let new : (b : ℕ) → n + 1 < b → is_in b p.1 ≡ false = λ b h. rw starting (let e : (n + 1 == b) ≡ false = grind (arith, nat_tests, h) in e) in
      record {
        is = (p.0 ∷ c.pre) ∷ c.is;
        rest = c.rest;
        parts = rw named (ap (λ (l : List Entry). p.0 ∷ l) (c.parts ∙ sym (append_assoc c.pre (chained c.is) c.rest)));
        each = ((same ∙ sym table.of.first, c.others), c.each);
        behind = c.behind;
        there = rw begin (ap (λ (l : List Entry). l ∷ map (in_itself rows tag) c.is) this
            ∙ ap (λ (m : List (List Entry)). part (n + 1) (p ∷ ps) ∷ m) (c.there ∙ past p (n + 1) ps bs c.later new));
        later = rw begin (grind (arith), later_still n (n + 1) bs (grind (arith)) c.later);
      }

  -- a field outside the group, which ends it
  ended : (n m : ℕ) (p : LocatedFields) (ps : List LocatedFields) → is_own g p.0.0 ≡ false → IsQuiet rows tag home m p
      → IsRun rows tag home g ps Shut m → has_tag tag (fields_of ps) ≡ false → Behind rows tag home g n (p ∷ ps)
  ended n m p ps out quiet run once =
      let after = shut ps m run once in
      let none : begins (first_tag tag rows) home (p ∷ ps) ≡ [] = quiet.1 _ ∙ after.1 in
      record {
        is = [];
        rest = kept g (fields_of (p ∷ ps));
        parts = refl;
        each = tt;
        behind = kept_without g (is_member g) (fields_of (p ∷ ps)) (not_member g p.0.0 out, after.0);
        there = rw none refl;
        later = rw none tt;
      }

  chain : (ps : List LocatedFields) (n q : ℕ) → IsRun rows tag home g ps (Inside q) n → has_tag tag (fields_of ps) ≡ false → Chain rows tag home g n q ps
  chain [] n q run once = record { pre = []; is = []; rest = []; parts = refl; others = tt; each = tt; behind = tt; here = refl; there = refl; later = tt }
  chain (p ∷ ps) n q run once =
      let tags = or_parts (p.0.0 == tag) (has_tag tag (fields_of ps)) once in
      elim run [
        | skips unnamed out quiet rest ↦ skipped n q p ps unnamed out quiet (chain ps n q rest tags.1)
        | leaves m le out gone quiet rest ↦ over n q (p ∷ ps) gone (ended n m p ps out quiet rest tags.1)
        | counts same stands le rest ↦ absurd (not_count p.0.0 tags.0 same)
        | starts is_open same stands gone rest ↦ over n q (p ∷ ps) gone (begun n p ps same stands (chain ps (n + 1) (n + 1) rest tags.1))
        | goes m le named other same quiet rest ↦ joined n m q p ps le named other same quiet (chain ps m q rest tags.1)
      ]

  -- fields after the count, of which none has begun an instance yet
  pub behind_count : (ps : List LocatedFields) (n : ℕ) → IsRun rows tag home g ps Counted n → has_tag tag (fields_of ps) ≡ false → Behind rows tag home g n ps
  behind_count [] n run once = record { is = []; rest = []; parts = refl; each = tt; behind = tt; there = refl; later = tt }
  behind_count (p ∷ ps) n run once =
      let tags = or_parts (p.0.0 == tag) (has_tag tag (fields_of ps)) once in
      elim run [
        | skips unnamed out quiet rest ↦ skipped_behind n p ps unnamed quiet (behind_count ps n rest tags.1)
        | leaves m le out gone quiet rest ↦ ended n m p ps out quiet rest tags.1
        | counts same stands le rest ↦ absurd (not_count p.0.0 tags.0 same)
        | starts is_open same stands gone rest ↦ begun n p ps same stands (chain ps (n + 1) (n + 1) rest tags.1)
        | goes m le named other same quiet rest ↦ absurd same
      ]
