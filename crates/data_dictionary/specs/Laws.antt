-- Laws of the dictionaries.
use Rattle.std.specs.Prelude.{◌≡◌, ◌⊎◌, ℕ, Bool, true, false, not, ◌&&◌, ◌||◌, List, [], ◌∷◌, ◌++◌, length, nat_lt, Option, Some, None, map}
use Rattle.std.specs.List.{list_all}
use Rattle.std.specs.Str.{bytes_eq}
use Rattle.fix_validation.specs.Tables.{header_rows, rows_of}
use Rattle.fix_dictionary.specs.Kinds.{is_session, type_of}
use Rattle.fix_validation.specs.Table.{value_fault}
use Rattle.fix_validation.specs.declared.table.Row.{Row}
use Rattle.fix_dictionary.specs.declared.kinds.MessageType.{MessageType}
use Rattle.data_dictionary.specs.Fields.{data_type_of, name_of}
use Rattle.data_dictionary.specs.Layout.{each, lines_in, said_by}
use Rattle.data_dictionary.specs.MessageTypes.{Listed, application_types, session_types}
use Rattle.data_dictionary.specs.Values.{values_of}

-- the lines of a table state each of its rows once, in order, with its tag, whether it is required, and its group
abbrev pub SaysEachRow : List Row → Type 0
SaysEachRow rows = said_by [] (lines_in 0 rows) ≡ each rows (λ row. record { tag = row.tag; required = row.required; group = row.group })

-- Each row of each table is stated once.
abbrev pub EachRowIsSaid : Type 0
EachRowIsSaid = SaysEachRow header_rows × ((kind : MessageType) (begin : ℕ) → SaysEachRow (rows_of kind begin))

-- the types of both dictionaries, by the value of 35
abbrev pub codes_stated : List (List ℕ)
codes_stated = each (session_types ++ application_types) (λ kind. kind.code)

abbrev pub is_among : List ℕ → List (List ℕ) → Bool
is_among text [] = false
is_among text (other ∷ others) = bytes_eq text other || is_among text others

-- no text occurs twice
abbrev pub are_distinct : List (List ℕ) → Bool
are_distinct [] = true
are_distinct (text ∷ texts) = not (is_among text texts) && are_distinct texts

-- A type that neither dictionary lists has no table: its messages have no tags of their own. No type is listed twice.
abbrev pub EachTableIsStated : Type 0
EachTableIsStated = ((kind : List ℕ) (begin : ℕ) → (is_among kind codes_stated ≡ true) ⊎ (length (rows_of (type_of kind) begin) ≡ 0))
    × (are_distinct codes_stated ≡ true)

-- whether a type is one of the session's own
abbrev pub is_of_session : Listed → Bool
is_of_session kind = is_session (type_of kind.code)

-- The types of the transport dictionary are the session's own, and none of the application dictionary is.
abbrev pub TypesAreApart : Type 0
TypesAreApart = (list_all is_of_session session_types ≡ true) × (list_all (λ kind. not (is_of_session kind)) application_types ≡ true)

-- each number is above the one before
abbrev pub are_rising : List ℕ → Bool
are_rising [] = true
are_rising (n ∷ ns) = list_all (nat_lt n) ns && are_rising ns

-- The tags of each dictionary occur once, under distinct names.
abbrev pub NamesStateFields : List ℕ → Type 0
NamesStateFields tags = (are_rising tags ≡ true) × (are_distinct ([] ∷ map name_of tags) ≡ true)

-- Of the fields that have listed values in a dictionary, each value is read, in each table.
abbrev pub is_none : {A : Type 0} → Option A → Bool
is_none None = true
is_none (Some x) = false

abbrev pub all_of : {A : Type 0} → List A → (A → Bool) → Bool
all_of things test = list_all test things

abbrev pub are_read : List ℕ → Bool
are_read kind = all_of (rows_of (type_of kind) 0) (λ row. all_of (values_of (data_type_of row.tag)) (λ named. is_none (value_fault row.form named.value)))

abbrev pub ValuesAreRead : Type 0
ValuesAreRead = (list_all are_read codes_stated ≡ true)
    × (all_of header_rows (λ row. all_of (values_of (data_type_of row.tag)) (λ named. is_none (value_fault row.form named.value))) ≡ true)
