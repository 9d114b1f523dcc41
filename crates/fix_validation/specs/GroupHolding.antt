-- Placed fields in which a table with repeating groups finds no fault.
use Rattle.std.specs.Prelude.{◌≡◌, ℕ, ◌==◌, if◌then◌else◌, List, [], ◌∷◌, ◌++◌, None}
use Rattle.std.specs.List.{AllByRecursion}
use Rattle.fix_validation.specs.declared.table.Row.{Row}
use Rattle.fix_validation.specs.Faults.{form_of, fault_as}
use Rattle.fix_validation.specs.Positions.{LocatedFields, part, begins}
use Rattle.fix_validation.specs.GroupFaults.{miscounted, missing_in}
use Rattle.fix_validation.specs.Holding.{Holds}

-- the rows of a group alone; group 0 is everything outside of groups
abbrev pub members : ℕ → List Row → List Row
members group [] = []
members group (r ∷ rs) =
    if r.group == group then record { tag = r.tag; required = r.required; form = r.form; group = 0 } ∷ members group rs else members group rs

-- no count is wrong, nothing is missing, and no value has a fault
pub record Clean (header rows : List Row) (ps : List LocatedFields) : Type 0 where
  pub counted : miscounted rows ps ps ≡ None
  pub headed : missing_in rows header ps ≡ None
  pub present : missing_in rows rows ps ≡ None
  pub right : AllByRecursion (λ (p : LocatedFields). fault_as (form_of p.0.0 (header ++ rows)) p.0.1 ≡ None) ps

-- the rows hold in each instance of a group in a part
abbrev pub EachHolds : List Row → ℕ → ℕ → List LocatedFields → Type 0
EachHolds rows first around ps = AllByRecursion (λ (q : ℕ). Holds rows (part q ps)) (begins first around ps)
