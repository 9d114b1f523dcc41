-- The first fault of a list of fields, seen by a table.
use Rattle.std.specs.Prelude.{ℕ, ◌==◌, Bool, true, false, ◌&&◌, ◌||◌, not, if◌then◌else◌, List, [], ◌∷◌, ◌++◌, Option, None, Some, is_some}
use Rattle.fix_fields.specs.declared.value.ValueFault.{ValueFault}
use Rattle.fix_fields.specs.declared.value.ValueFault.TheVariants as value
use Rattle.fix_fields.specs.Fields.{Entry}
use Rattle.fix_validation.specs.declared.faults.DictFault.{DictFault}
use Rattle.fix_validation.specs.declared.faults.DictFault.TheVariants.{Twice, Missing, Format, Range}
use Rattle.fix_validation.specs.declared.table.Form.{Form}
use Rattle.fix_validation.specs.declared.table.Row.{Row}
use Rattle.fix_validation.specs.Table.{value_fault}

-- the form that a table gives a tag, if it names it
abbrev pub form_of : ℕ → List Row → Option Form
form_of tag [] = None
form_of tag (r ∷ rs) = if r.tag == tag then Some r.form else form_of tag rs

abbrev pub has_tag : ℕ → List Entry → Bool
has_tag tag [] = false
has_tag tag (f ∷ fs) = (f.0 == tag) || has_tag tag fs

-- the first field that is named and repeats the tag of an earlier one
abbrev pub repeated : List Row → List Entry → List Entry → Option ℕ
repeated rows earlier [] = None
repeated rows earlier (f ∷ fs) =
    if is_some (form_of f.0 rows) && has_tag f.0 earlier then Some f.0 else repeated rows (earlier ++ f ∷ []) fs

-- the first row that is required and has no field
abbrev pub missing : List Row → List Entry → Option ℕ
missing [] fields = None
missing (r ∷ rs) fields = if r.required && not (has_tag r.tag fields) then Some r.tag else missing rs fields

-- the fault of a field's value, if its tag is named
abbrev pub fault_as : Option Form → List ℕ → Option ValueFault
fault_as None bytes = None
fault_as (Some form) bytes = value_fault form bytes

abbrev pub is_fault : ValueFault → Option ValueFault → Bool
is_fault fault None = false
is_fault value.Format (Some value.Format) = true
is_fault value.Format (Some value.Range) = false
is_fault value.Range (Some value.Format) = false
is_fault value.Range (Some value.Range) = true

-- the first field whose value has this fault
abbrev pub faulty : ValueFault → List Row → List Entry → Option ℕ
faulty fault rows [] = None
faulty fault rows (f ∷ fs) = if is_fault fault (fault_as (form_of f.0 rows) f.1) then Some f.0 else faulty fault rows fs

abbrev pub or_else : (ℕ → DictFault) → Option ℕ → Option DictFault → Option DictFault
or_else fault None next = next
or_else fault (Some tag) next = Some (fault tag)

-- the first field whose value lacks its form, or else the first whose value is outside its range
abbrev pub misfit : List Row → List Entry → Option DictFault
misfit rows fields = or_else Format (faulty value.Format rows fields) (or_else Range (faulty value.Range rows fields) None)

-- The first fault, in the order of the kinds.
unfoldable pub first_fault : List Row → List Entry → Option DictFault
first_fault rows fields =
    or_else Twice (repeated rows [] fields)
    (or_else Missing (missing rows fields) (misfit rows fields))
