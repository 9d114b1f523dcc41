-- The groups that a table makes of fields, as groups of fields.
use Rattle.std.specs.Prelude.{◌≡◌, ◌⊎◌, ℕ, ◌==◌, Bool, true, false, ◌&&◌, ◌||◌, not, List, [], map, filter, Option, None, Some, is_some}
use Rattle.fix_fields.specs.Fields.{Entry}
use Rattle.fix_fields.specs.Groups.{has, is_own, HasNo, IsGroup}
use Rattle.fix_fields.specs.declared.group.Group.{Group}
use Rattle.fix_validation.specs.declared.faults.DictFault.{DictFault}
use Rattle.fix_validation.specs.declared.faults.DictFault.TheVariants.{Twice, Count, Missing, Format, Range, NoMemory}
use Rattle.fix_validation.specs.declared.table.Row.{Row}
use Rattle.fix_validation.specs.Stated.{some_or}
use Rattle.fix_validation.specs.Positions.{LocatedFields, group_of, first_tag, instances}
use Rattle.fix_validation.specs.Tables.{header_rows, rows_of}
use Rattle.fix_decoder.specs.Messages.{placed_as, type_in}

-- Whether a tag is in the group named by a count's tag, or in a group within it, by the group that the table puts it
-- in: none if the table does not name it, 0 outside of groups.
abbrev pub is_within : List Row → ℕ → Option ℕ → Bool
is_within rows tag None = false
is_within rows tag (Some group) = (group == tag) || (some_or 0 (group_of group rows) == tag)

-- whether it is in that group itself
abbrev pub stands_in : ℕ → Option ℕ → Bool
stands_in tag None = false
stands_in tag (Some group) = group == tag

-- whether the table names tag t, and it is not in the group: neither its count nor within it
abbrev pub is_sibling : List Row → ℕ → ℕ → Option ℕ → Bool
is_sibling rows tag t None = false
is_sibling rows tag t (Some group) = not (is_within rows tag (Some group)) && not (t == tag)

-- The group of fields of the table: its count, its first tag, the other tags in it or in a group within it, and all
-- other tags of the table, without those of the header. The bounds on the number of instances are left open.
pub record IsOfTable (rows : List Row) (tag : ℕ) (g : Group) : Type 0 where
  pub count : g.count ≡ tag
  pub first : g.first ≡ first_tag tag rows
  pub others : (t : ℕ) → has g.others.now t ≡ (is_within rows tag (group_of t rows) && not (t == first_tag tag rows))
  pub outside : (t : ℕ) → has g.outside.now t ≡ is_sibling rows tag t (group_of t rows)

-- the tags of the rows that pass a test of tag and group
abbrev pub tags : (ℕ → ℕ → Bool) → List Row → List ℕ
tags test rows = map (λ (r : Row). r.tag) (filter (λ (r : Row). test r.tag r.group) rows)

-- such a group, with the tags as the table lists them (its bounds, and the places of the lists in memory, are
-- arbitrary)
abbrev pub group_in : List Row → ℕ → Group
group_in rows tag = record {
  count = tag;
  low = 1;
  high = 1;
  first = first_tag tag rows;
  others = record { ref_ptr = (0, 0); now = tags (λ t group. is_within rows tag (Some group) && not (t == first_tag tag rows)) rows };
  outside = record { ref_ptr = (0, 0); now = tags (λ t group. is_sibling rows tag t (Some group)) rows };
}

-- the fields of an instance in the group itself, and not in a group within it
abbrev pub in_itself : List Row → ℕ → List Entry → List Entry
in_itself rows tag fields = filter (λ (f : Entry). stands_in tag (group_of f.0 rows)) fields

-- `q` is the part with the group's count, 0 outside of groups. Either the fields have no tag of the group, and none of
-- its instances is in part `q`; or they are the group, with some instances, and the fields of these in the group itself
-- are its instances in part `q`, in order.
abbrev pub IsTied : List Row → ℕ → ℕ → Group → List Entry → List LocatedFields → Type 0
IsTied rows tag q g fields ps =
    (HasNo (is_own g) fields × (instances (first_tag tag rows) q ps ≡ []))
    ⊎ ((is : List (List Entry)) × (IsGroup g fields is × (map (in_itself rows tag) is ≡ instances (first_tag tag rows) q ps)))

-- a tag that the header names, or that the table puts outside of groups
abbrev pub stands_alone : List Row → ℕ → Bool
stands_alone rows t = is_some (group_of t header_rows) || stands_in 0 (group_of t rows)

-- the table of the type that the fields name
abbrev pub rows_in : List Entry → List Row
rows_in fields = rows_of (type_in fields) 0

-- the positions of the fields by that table
abbrev pub placed_in : List Entry → List LocatedFields
placed_in fields = placed_as (type_in fields) fields

-- No tag occurs twice in its part and no count is wrong: the first fault, if there is one, is of another kind, which
-- comes only after these two.
abbrev pub is_counted : Option DictFault → Bool
is_counted None = true
is_counted (Some (Twice tag)) = false
is_counted (Some (Count tag)) = false
is_counted (Some (Missing tag)) = true
is_counted (Some (Format tag)) = true
is_counted (Some (Range tag)) = true
is_counted (Some NoMemory) = true
