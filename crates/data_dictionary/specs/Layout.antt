-- The lines of a table: a field for each row, and a group around the rows of its instances.
use Rattle.std.specs.Prelude.{ℕ, Bool, true, false, List, [], ◌∷◌, ◌++◌, nat_eq, nat_lt, map}
use Rattle.std.specs.List.{flat_map, list_any}
use Rattle.fix_validation.specs.Tables.{header_rows, rows_of}
use Rattle.fix_validation.specs.declared.table.Row.{Row}
use Rattle.fix_dictionary.specs.Kinds.{type_of}
use Rattle.data_dictionary.specs.declared.lines.Mention.{Mention}
use Rattle.data_dictionary.specs.declared.lines.Line.{Line}
use Rattle.data_dictionary.specs.declared.lines.Line.TheVariants.{Field, GroupBegin, GroupEnd}
use Rattle.data_dictionary.specs.MessageTypes.{Listed, application_types, session_types}

-- a function of each of these rows
abbrev pub each : {A B : Type 0} → List A → (A → B) → List B
each things stated = map stated things

-- the rows of a type, by which messages of the type are read and printed (the number that a resend request begins with
-- only bounds its 16)
abbrev pub rows_stated : Listed → List Row
rows_stated kind = rows_of (type_of kind.code) 0

-- the reference of a line to the field of a row, and a required field
abbrev pub stated : Row → Mention
stated row = record { tag = row.tag; required = row.required }

abbrev pub required : ℕ → Mention
required tag = record { tag = tag; required = true }

-- the fields of a frame before the header, and after the body
unfoldable pub frame_begin : List Mention
frame_begin = required 8 ∷ required 9 ∷ []

unfoldable pub frame_end : List Mention
frame_end = required 10 ∷ []

-- whether some of these rows are in the instances that this tag counts
abbrev pub is_counted : ℕ → List Row → Bool
is_counted tag rows = list_any (λ (row : Row). nat_eq row.group tag) rows

-- The lines of the rows of this group, 0 for outside of groups. The lines of a group's instances follow its count
-- field.
abbrev pub lines_in : ℕ → List Row → List Line
lines_in group [] = []
lines_in group (row ∷ rows) = elim (nat_eq row.group group) [
  | true ↦ elim (is_counted row.tag rows) [
    | true ↦ GroupBegin (stated row) ∷ lines_in row.tag rows ++ GroupEnd ∷ lines_in group rows
    | false ↦ Field (stated row) ∷ lines_in group rows
  ]
  | false ↦ lines_in group rows
]

-- the count fields of the groups that are open, the innermost first
abbrev pub innermost : List ℕ → ℕ
innermost [] = 0
innermost (tag ∷ tags) = tag

abbrev pub outer : List ℕ → List ℕ
outer [] = []
outer (tag ∷ tags) = tags

-- the content of a line for a field: its tag, whether it is required, and its group
pub record Said : Type 0 where
  pub tag : ℕ
  pub required : Bool
  pub group : ℕ

abbrev pub said : Mention → List ℕ → Said
said field around = record { tag = field.tag; required = field.required; group = innermost around }

-- the content of the lines for each field, within these open groups
abbrev pub said_by : List ℕ → List Line → List Said
said_by around [] = []
said_by around (Field field ∷ lines) = said field around ∷ said_by around lines
said_by around (GroupBegin field ∷ lines) = said field around ∷ said_by (field.tag ∷ around) lines
said_by around (GroupEnd ∷ lines) = said_by (outer around) lines

-- tags in rising order, each once
abbrev pub with_tag : ℕ → List ℕ → List ℕ
with_tag tag [] = tag ∷ []
with_tag tag (other ∷ others) = elim (nat_lt tag other) [
  | true ↦ tag ∷ other ∷ others
  | false ↦ elim (nat_eq tag other) [ true ↦ other ∷ others | false ↦ other ∷ with_tag tag others ]
]

abbrev pub rising : List ℕ → List ℕ
rising [] = []
rising (tag ∷ tags) = with_tag tag (rising tags)

abbrev pub tags_of : List Row → List ℕ
tags_of rows = each rows (λ row. row.tag)

-- the tags of the frame, the header and the session's messages, and those of the application messages
unfoldable pub transport_tags : List ℕ
transport_tags = rising (each (frame_begin ++ frame_end) (λ field. field.tag) ++ tags_of (header_rows ++ flat_map rows_stated session_types))

unfoldable pub application_tags : List ℕ
application_tags = rising (tags_of (flat_map rows_stated application_types))
