-- The first fault of a list of fields, seen by a table with repeating groups.
use Rattle.std.specs.Prelude.{ℕ, ◌==◌, Bool, false, ◌&&◌, ◌||◌, not, if◌then◌else◌, List, [], ◌∷◌, ◌++◌, length, Option, None, Some}
use Rattle.fix_fields.specs.Fields.{Entry}
use Rattle.fix_fields.specs.GroupParts.{emits}
use Rattle.fix_validation.specs.Stated.{some_or}
use Rattle.fix_validation.specs.declared.faults.DictFault.{DictFault}
use Rattle.fix_validation.specs.declared.faults.DictFault.TheVariants.{Twice, Count, Missing}
use Rattle.fix_validation.specs.declared.table.Row.{Row}
use Rattle.fix_validation.specs.declared.positions.FieldPosition.{FieldPosition}
use Rattle.fix_validation.specs.declared.positions.FieldPosition.TheVariants.{Unknown, InPart, Begins, Misplaced}
use Rattle.fix_validation.specs.Faults.{has_tag, misfit, or_else}
use Rattle.fix_validation.specs.Positions.{LocatedFields, group_of, first_tag, is_count, part, begins}

-- the tag occurs earlier in its part
abbrev pub repeats : ℕ → FieldPosition → List LocatedFields → Bool
repeats tag Unknown earlier = false
repeats tag (InPart q) earlier = has_tag tag (part q earlier)
repeats tag (Begins q around) earlier = has_tag tag (part q earlier)
repeats tag (Misplaced q) earlier = has_tag tag (part q earlier)

-- the first field whose tag occurs earlier in its part
abbrev pub twice : List LocatedFields → List LocatedFields → Option ℕ
twice earlier [] = None
twice earlier (p ∷ ps) = if repeats p.0.0 p.1 earlier then Some p.0.0 else twice (earlier ++ p ∷ []) ps

-- a count field whose value is not the number of its group's instances in its part
abbrev pub is_wrong : List Row → List LocatedFields → ℕ → ℕ → List ℕ → Bool
is_wrong rows all q tag bytes = is_count tag rows && not (emits (length (begins (first_tag tag rows) q all)) bytes)

-- the group that a field shows to be miscounted: that of a stray member, or the field's own
abbrev pub miscounts : List Row → List LocatedFields → Entry → FieldPosition → Option ℕ
miscounts rows all f Unknown = None
miscounts rows all f (InPart q) = if is_wrong rows all q f.0 f.1 then Some f.0 else None
miscounts rows all f (Begins q around) = if is_wrong rows all q f.0 f.1 then Some f.0 else None
miscounts rows all f (Misplaced q) = Some (some_or 0 (group_of f.0 rows))

abbrev pub or_next : Option ℕ → Option ℕ → Option ℕ
or_next None next = next
or_next (Some tag) next = Some tag

abbrev pub miscounted : List Row → List LocatedFields → List LocatedFields → Option ℕ
miscounted rows all [] = None
miscounted rows all (p ∷ ps) = or_next (miscounts rows all p.0 p.1) (miscounted rows all ps)

-- an instance of a group, by the group's first tag, lacks the tag from there on
abbrev pub lacks : ℕ → ℕ → ℕ → FieldPosition → List LocatedFields → Bool
lacks first tag begin (Begins q around) onwards = (begin == first) && not (has_tag tag (part q onwards))
lacks first tag begin Unknown onwards = false
lacks first tag begin (InPart q) onwards = false
lacks first tag begin (Misplaced q) onwards = false

abbrev pub lacking : ℕ → ℕ → List LocatedFields → Bool
lacking first tag [] = false
lacking first tag (p ∷ ps) = lacks first tag p.0.0 p.1 (p ∷ ps) || lacking first tag ps

-- a row lacks a field: outside of groups, or in an instance of its group
abbrev pub is_lacking : List Row → Row → List LocatedFields → Bool
is_lacking rows r ps = if r.group == 0 then not (has_tag r.tag (part 0 ps)) else lacking (first_tag r.group rows) r.tag ps

-- the first row that is required and lacks a field
abbrev pub missing_in : List Row → List Row → List LocatedFields → Option ℕ
missing_in rows [] ps = None
missing_in rows (r ∷ rs) ps = if r.required && is_lacking rows r ps then Some r.tag else missing_in rows rs ps

-- The first fault, in the order of the kinds.
unfoldable pub located_fault : List Row → List Row → List LocatedFields → List Entry → Option DictFault
located_fault header rows ps fields =
    or_else Twice (twice [] ps)
    (or_else Count (miscounted rows ps ps)
    (or_else Missing (missing_in rows header ps)
    (or_else Missing (missing_in rows rows ps) (misfit (header ++ rows) fields))))
