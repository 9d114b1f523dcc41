-- Fields found by their tags, and rows that have the fields they ask for.
use Rattle.std.specs.Prelude.{◌≡◌, ℕ, ◌%◌, Bool, true, false, ◌&&◌, ◌||◌, not, List, [], ◌∷◌, ◌++◌, take, slice_index, Option, None, Some, is_none}
use Rattle.fix_fields.specs.Fields.{Entry, value_of}
use Rattle.fix_validation.specs.declared.table.Row.{Row}
use Rattle.fix_validation.specs.Table.{value_fault}
use Rattle.fix_validation.specs.Faults.{has_tag}

-- a field has the tag of an earlier one
abbrev pub any_twice : List Entry → List Entry → Bool
any_twice earlier [] = false
any_twice earlier (f ∷ fs) = has_tag f.0 earlier || any_twice (earlier ++ f ∷ []) fs

-- no field has a tag before the place noted for the tag's remainder
abbrev pub AreNoted : List ℕ → List Entry → Type 0
AreNoted places fields = (tag : ℕ) → has_tag tag (take (slice_index places (tag % 128)) fields) ≡ false

-- the row is not required, or has a value without fault
abbrev pub row_holds : Row → Option (List ℕ) → Bool
row_holds r None = not r.required
row_holds r (Some bytes) = is_none (value_fault r.form bytes)

abbrev pub rows_hold : List Row → List Entry → Bool
rows_hold [] fields = true
rows_hold (r ∷ rs) fields = row_holds r (value_of r.tag fields) && rows_hold rs fields
