-- The meaning of a Twice or a Count fault for located fields.
use Rattle.std.proofs.Common.{◌≡◌, ℕ, List, [], ◌++◌, true, false, Bool, refl, ap, rules, cond, Option, Some, None}
use Rattle.fix_fields.specs.Fields.{Entry}
use Rattle.fix_fields.specs.declared.value.ValueFault.TheVariants as value
use Rattle.fix_validation.specs.declared.faults.DictFault.{DictFault}
use Rattle.fix_validation.specs.declared.faults.DictFault.TheVariants.{Twice, Count, Missing, Format, Range}
use Rattle.fix_validation.specs.declared.table.Row.{Row}
use Rattle.fix_validation.specs.Faults.{faulty, or_else, misfit}
use Rattle.fix_validation.specs.GroupFaults.{twice, miscounted, or_next, missing_in, located_fault}
use Rattle.fix_validation.specs.Positions.{LocatedFields}
use Rattle.fix_group_laws.proofs.States.{none_some, same_some}

-- a fault of another kind is not the first one
other_fault : (fault : ℕ → DictFault) (o : Option ℕ) (next : Option DictFault) (this : DictFault) → ((t : ℕ) → fault t ≡ this → ⊥)
    → or_else fault o next ≡ Some this → (o ≡ None) × (next ≡ Some this)
other_fault fault None next this other h = (refl, h)
other_fault fault (Some t) next this other h = absurd (other t (same_some (fault t) this h))

no_format : (tag t : ℕ) → Format t ≡ Count tag → ⊥
no_format tag t h = search (h, rules)

no_range : (tag t : ℕ) → Range t ≡ Count tag → ⊥
no_range tag t h = search (h, rules)

no_missing : (tag t : ℕ) → Missing t ≡ Count tag → ⊥
no_missing tag t h = search (h, rules)

no_twice : (tag t : ℕ) → Twice t ≡ Count tag → ⊥
no_twice tag t h = search (h, rules)

same_count : (tag t : ℕ) → Count t ≡ Count tag → t ≡ tag
same_count tag t h = search (h, rules)

same_twice : (tag t : ℕ) → Twice t ≡ Twice tag → t ≡ tag
same_twice tag t h = search (h, rules)

-- the fault is found here unless it is found later
stated_here : (fault : ℕ → DictFault) (tag : ℕ) (o : Option ℕ) (next : Option DictFault) → ((t : ℕ) → fault t ≡ fault tag → t ≡ tag) → (next ≡ Some (fault tag) → ⊥)
    → or_else fault o next ≡ Some (fault tag) → o ≡ Some tag
stated_here fault tag None next same never h = absurd (never h)
stated_here fault tag (Some t) next same never h = ap (λ (n : ℕ). Some n) (same t (same_some (fault t) (fault tag) h))

-- the faults of counts, of rows that lack a field, and of values are not that of a tag that occurs twice
never_twice : (tag : ℕ) (counts header rows form range : Option ℕ)
    → or_else Count counts (or_else Missing header (or_else Missing rows (or_else Format form (or_else Range range None)))) ≡ Some (Twice tag) → ⊥
never_twice tag (Some t) header rows form range h = search (h, rules)
never_twice tag None (Some t) rows form range h = search (h, rules)
never_twice tag None None (Some t) form range h = search (h, rules)
never_twice tag None None None (Some t) range h = search (h, rules)
never_twice tag None None None None (Some t) h = search (h, rules)
never_twice tag None None None None None h = none_some (Twice tag) h

-- the first field whose tag occurs earlier in its part has this tag
pub twice_stated : (header rows : List Row) (ps : List LocatedFields) (fields : List Entry) (tag : ℕ) → located_fault header rows ps fields ≡ Some (Twice tag) → twice [] ps ≡ Some tag
unfolding located_fault
twice_stated header rows ps fields tag h =
    stated_here Twice tag (twice [] ps) _ (same_twice tag)
    (never_twice tag (miscounted rows ps ps) (missing_in rows header ps) (missing_in rows rows ps) (faulty value.Format (header ++ rows) fields) (faulty value.Range (header ++ rows) fields)) h

-- no tag occurs twice in its part, and the first field that shows a group to be miscounted shows this one
pub count_stated : (header rows : List Row) (ps : List LocatedFields) (fields : List Entry) (tag : ℕ) → located_fault header rows ps fields ≡ Some (Count tag)
    → (twice [] ps ≡ None) × (miscounted rows ps ps ≡ Some tag)
unfolding located_fault
count_stated header rows ps fields tag h =
    let a = other_fault Twice _ _ (Count tag) (no_twice tag) h in (
      a.0,
      stated_here Count tag _ _ (same_count tag) (λ h.
          let b = other_fault Missing (missing_in rows header ps) _ (Count tag) (no_missing tag) h in
          let c = other_fault Missing (missing_in rows rows ps) (misfit (header ++ rows) fields) (Count tag) (no_missing tag) b.1 in
          let d = other_fault Format (faulty value.Format (header ++ rows) fields) _ (Count tag) (no_format tag) c.1 in
          let e = other_fault Range (faulty value.Range (header ++ rows) fields) None (Count tag) (no_range tag) d.1 in
          none_some (Count tag) e.1) a.1,
    )

-- the value found where a test holds
pub cond_some : (b : Bool) (t tag : ℕ) → cond b (Some t) None ≡ Some tag → (b ≡ true) × (t ≡ tag)
cond_some true t tag h = (refl, same_some t tag h)
cond_some false t tag h = absurd (none_some tag h)

-- the value is found later if it is not found here
pub next_some : (a b : Option ℕ) (tag : ℕ) → (a ≡ Some tag → ⊥) → or_next a b ≡ Some tag → b ≡ Some tag
next_some None b tag other h = h
next_some (Some t) b tag other h = absurd (other h)
