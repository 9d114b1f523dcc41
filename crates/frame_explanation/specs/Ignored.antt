-- The fields that the venue does not read, each tag once, with the number of messages that have it.
--
--     ignored: 1138 (DisplayQty) in 3 of the messages
use Rattle.std.specs.Prelude.{ℕ, ◌==◌, ◌||◌, Bool, true, false, List, [], ◌∷◌, ◌++◌, Result, Ok, Err, count_by, if◌then◌else◌, codes, decimal}
use Rattle.std.specs.List.{flat_map, list_any}
use Rattle.fix_dictionary.specs.Kinds.{type_of}
use Rattle.fix_dictionary.specs.declared.kinds.MessageType.{MessageType}
use Rattle.fix_dictionary.specs.declared.kinds.MessageType.TheVariants as types
use Rattle.fix_fields.specs.Fields.{Entry}
use Rattle.fix_fields.specs.declared.fields.FieldFault.{FieldFault}
use Rattle.fix_session.specs.Reader.{Reader}
use Rattle.fix_validation.specs.Tables.{header_rows, rows_of}
use Rattle.fix_validation.specs.declared.table.Row.{Row}
use Rattle.frame_explanation.specs.declared.log_items.Source.{Source}
use Rattle.frame_explanation.specs.declared.log_items.Source.TheVariants as source
use Rattle.frame_explanation.specs.declared.log_items.Heard.{Heard}
use Rattle.frame_explanation.specs.Names.{ignored_name}
use Rattle.frame_explanation.specs.Parts.{joined}
use Rattle.frame_explanation.specs.Pieces.{value_in}

abbrev pub is_unsupported : MessageType → Bool
is_unsupported types.Unsupported = true
is_unsupported _ = false

-- the type of a body
abbrev pub kind_of : List ℕ → MessageType
kind_of body = type_of (value_in (codes "35=") body)

-- a row of the tables has the tag: the header's, or one of the type
abbrev pub has_row : List Row → ℕ → Bool
has_row rows tag = list_any (λ row. row.tag == tag) rows

abbrev pub has_own_row : MessageType → ℕ → Bool
has_own_row kind tag = has_row (rows_of kind 1) tag

abbrev pub is_read : MessageType → ℕ → Bool
is_read kind tag = has_row header_rows tag || has_own_row kind tag

abbrev pub has_tag : List ℕ → ℕ → Bool
has_tag tags tag = list_any (λ other. other == tag) tags

abbrev pub with_tag : List ℕ → ℕ → List ℕ
with_tag tags tag = if has_tag tags tag then tags else tags ++ tag ∷ []

-- the tags of a message that the venue does not read, each once
abbrev pub unread_after : MessageType → List ℕ → ℕ → List ℕ
unread_after kind tags tag = if is_read kind tag then tags else with_tag tags tag

abbrev pub unread_from : MessageType → List ℕ → List Entry → List ℕ
unread_from kind tags [] = tags
unread_from kind tags (f ∷ fields) = unread_from kind (unread_after kind tags f.0) fields

-- of a type that the venue does not know, it reads nothing, and answers so
abbrev pub unread_in : MessageType → List Entry → List ℕ
unread_in kind fields = if is_unsupported kind then [] else unread_from kind [] fields

abbrev pub unread_of : List ℕ → Result (List Entry) FieldFault → List ℕ
unread_of body (Ok fields) = unread_in (kind_of body) fields
unread_of body (Err fault) = []

abbrev pub ignored_as : Source → Reader → List ℕ → List ℕ
ignored_as source.Participant r body = unread_of body (r.fields body)
ignored_as source.Venue r body = []
ignored_as source.Assumed r body = []
ignored_as source.Broken r body = []

abbrev pub ignored_in : Reader → Heard → List ℕ
ignored_in r heard = ignored_as heard.item.source r heard.item.body.items

-- the tags of all messages of participants, once for each message
abbrev pub ignored : Reader → List Heard → List ℕ
ignored r heard = flat_map (ignored_in r) heard

abbrev pub distinct_from : List ℕ → List ℕ → List ℕ
distinct_from tags [] = tags
distinct_from tags (t ∷ more) = distinct_from (with_tag tags t) more

abbrev pub counted_line : (tag : ℕ) → (name : List ℕ) → (count : ℕ) → List ℕ
counted_line tag name count =
    joined (codes "    ignored: " ∷ decimal tag ∷ codes " (" ∷ name ∷ codes ") in " ∷ decimal count ∷ codes " of the messages\n" ∷ [])

abbrev pub ignored_line : List ℕ → ℕ → List ℕ
ignored_line tags tag = counted_line tag (ignored_name tag) (count_by (λ other. other == tag) tags)

abbrev pub ignored_lines : List ℕ → List ℕ
ignored_lines tags = flat_map (ignored_line tags) (distinct_from [] tags)
