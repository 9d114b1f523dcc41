-- Fields in which a table finds no fault.
use Rattle.std.specs.Prelude.{◌≡◌, ℕ, false, List, Option, None, Some}
use Rattle.std.specs.List.{AllByRecursion}
use Rattle.fix_fields.specs.Fields.{Entry, value_of}
use Rattle.fix_validation.specs.declared.table.Row.{Row}
use Rattle.fix_validation.specs.Table.{value_fault}

-- the row is not required, or has a value without fault
abbrev pub RowHolds : Row → Option (List ℕ) → Type 0
RowHolds r None = r.required ≡ false
RowHolds r (Some bytes) = value_fault r.form bytes ≡ None

abbrev pub Holds : List Row → List Entry → Type 0
Holds rows fields = AllByRecursion (λ (r : Row). RowHolds r (value_of r.tag fields)) rows
