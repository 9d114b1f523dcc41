use Rattle.std.specs.Prelude.{ℕ, Bool, true, false, not, ◌&&◌, List, [], ◌∷◌, Option, Some, None, is_none, is_some}
use Rattle.toml.specs.Data.{Data, Items, no_items, item, string, array, as_table, get}
use Rattle.config_format.specs.Names.{is_name}

-- the values of a list
abbrev pub values : Items → List Data
values no_items = []
values (item d ds) = d ∷ values ds

-- the entries of a list, or none where there is no list
abbrev pub entries_in : Option Data → List Data
entries_in (Some (array ds)) = values ds
entries_in _ = []

-- a text, or an empty one where there is none
abbrev pub text_in : Option Data → List ℕ
text_in (Some (string s)) = s
text_in _ = []

abbrev pub text_at : List ℕ → Data → List ℕ
text_at key entry = text_in (get key entry)

-- a table that lacks the key
abbrev pub lacks : List ℕ → Data → Bool
lacks key entry = is_some (as_table entry) && is_none (get key entry)

-- a list without an entry
abbrev pub is_without_entry : Option Data → Bool
is_without_entry (Some (array no_items)) = true
is_without_entry _ = false

-- a value is stated that is not a list
abbrev pub is_no_list : Option Data → Bool
is_no_list None = false
is_no_list (Some (array ds)) = false
is_no_list (Some d) = true

-- a value is stated that is not a name
abbrev pub is_no_name : Option Data → Bool
is_no_name None = false
is_no_name (Some (string s)) = not (is_name s)
is_no_name (Some d) = true
