-- Parts of fields that may be a group, and the test of them.
use Rattle.std.specs.Prelude.{◌≡◌, ℕ, ◌==◌, Bool, true, false, ◌&&◌, not, List, [], ◌∷◌, ◌++◌, Result, Ok, Err}
use Rattle.fix_fields.specs.Fields.{Entry}
use Rattle.fix_fields.specs.Forms.{integer_in}
use Rattle.fix_fields.specs.declared.value.ValueFault.{ValueFault}
use Rattle.fix_fields.specs.declared.group.Group.{Group}
use Rattle.fix_fields.specs.Groups.{is_member, is_own, is_end, kept, HasNo}

-- there is no field, or the first one passes the test
abbrev pub BeginsAs : (ℕ → Bool) → List Entry → Type 0
BeginsAs test [] = Unit {0}
BeginsAs test (f ∷ fs) = test f.0 ≡ true

-- the first field of the group, the fields after it up to the group's end, and the rest
pub record IsCut (g : Group) (fields : List Entry) (count : Entry) (body rest : List Entry) : Type 0 where
  pub front : List Entry
  pub parts : fields ≡ front ++ count ∷ (body ++ rest)
  pub before : HasNo (is_own g) front
  pub own : is_own g count.0 ≡ true
  pub middle : HasNo (is_end g) body
  pub behind : BeginsAs (is_end g) rest

-- the first field, if there is one, has the tag
abbrev pub begins_with : ℕ → List Entry → Bool
begins_with tag [] = true
begins_with tag (f ∷ fs) = f.0 == tag

-- no field has a tag that passes the test
abbrev pub has_no : (ℕ → Bool) → List Entry → Bool
has_no test [] = true
has_no test (f ∷ fs) = not (test f.0) && has_no test fs

-- the text spells this integer
abbrev pub is_read_as : ℕ → Result ℕ ValueFault → Bool
is_read_as n (Ok m) = m == n
is_read_as n (Err fault) = false

abbrev pub emits : ℕ → List ℕ → Bool
emits n text = is_read_as n (integer_in 0 1_000_000_000_000_000_000 text)

-- the parts are a group with that many instances
abbrev pub is_whole : Group → Entry → List Entry → List Entry → ℕ → Bool
is_whole g count body rest many =
    (count.0 == g.count) && (begins_with g.first (kept g body) && (has_no (is_member g) rest && emits many count.1))
