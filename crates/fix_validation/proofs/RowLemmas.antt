-- The rows of a header followed by those of a table, and the faults of their fields.
use Rattle.std.proofs.Common.{◌≡◌, ℕ, List, [], ◌∷◌, ◌++◌, Option, Some, None, refl, cond, ◌==◌, true, false, Bool, ◌&&◌, not, ap}
use Rattle.fix_validation.specs.declared.table.Form.{Form}
use Rattle.fix_validation.specs.declared.table.Row.{Row}
use Rattle.fix_validation.specs.declared.faults.DictFault.{DictFault}
use Rattle.fix_validation.specs.Faults.{form_of, missing, has_tag}
use Rattle.fix_fields.specs.Fields.{Entry}
use Rattle.fix_fields.specs.declared.fields.Field.{Field}
use Rattle.fix_fields.specs.Views.{entry, entries}

abbrev pub or_form : Option Form → Option Form → Option Form
or_form None next = next
or_form (Some form) next = Some form

cond_or : (b : _) (form : Form) (x y : Option Form) → cond b (Some form) (or_form x y) ≡ or_form (cond b (Some form) x) y
cond_or true form x y = refl
cond_or false form x y = refl

pub form_of_append : (tag : ℕ) (header rows : List Row) → form_of tag (header ++ rows) ≡ or_form (form_of tag header) (form_of tag rows)
form_of_append tag [] rows = refl
form_of_append tag (r ∷ rs) rows = rw (form_of_append tag rs rows) (cond_or (r.tag == tag) r.form (form_of tag rs) (form_of tag rows))

abbrev pub or_tag : Option ℕ → Option ℕ → Option ℕ
or_tag None next = next
or_tag (Some tag) next = Some tag

cond_or_tag : (b : Bool) (tag : ℕ) (x y : Option ℕ) → cond b (Some tag) (or_tag x y) ≡ or_tag (cond b (Some tag) x) y
cond_or_tag true tag x y = refl
cond_or_tag false tag x y = refl

pub missing_append : (header rows : List Row) (fields : List Entry) → missing (header ++ rows) fields ≡ or_tag (missing header fields) (missing rows fields)
missing_append [] rows fields = refl
missing_append (r ∷ rs) rows fields =
    rw (missing_append rs rows fields) (cond_or_tag (r.required && not (has_tag r.tag fields)) r.tag (missing rs fields) (missing rows fields))

pub entries_push : (fs : List Field) (f : Field) → entries (fs ++ f ∷ []) ≡ entries fs ++ entry f ∷ []
entries_push [] f = refl
entries_push (g ∷ fs) f = ap (λ (l : List Entry). entry g ∷ l) (entries_push fs f)

abbrev pub or_fault : Option DictFault → Option DictFault → Option DictFault
or_fault None next = next
or_fault (Some fault) next = Some fault
