-- The text of a data dictionary, in QuickFIX's XML: the header, the messages and the trailer line by line, then each
-- field of theirs.
use Rattle.std.specs.Prelude.{ℕ, Bool, true, false, List, ◌++◌, codes, decimal}
use Rattle.std.specs.List.{flat_map}
use Rattle.fix_validation.specs.Tables.{header_rows}
use Rattle.fix_validation.specs.declared.table.Row.{Row}
use Rattle.data_dictionary.specs.declared.lines.Line.{Line}
use Rattle.data_dictionary.specs.declared.lines.Mention.{Mention}
use Rattle.data_dictionary.specs.declared.lines.Line.TheVariants.{Field, GroupBegin, GroupEnd}
use Rattle.data_dictionary.specs.declared.dictionaries.Dictionary.{Dictionary}
use Rattle.data_dictionary.specs.declared.dictionaries.Dictionary.TheVariants.{Transport, Application}
use Rattle.data_dictionary.specs.Fields.{data_type_of, name_of, type_name_of}
use Rattle.data_dictionary.specs.Layout.{application_tags, frame_begin, frame_end, lines_in, rows_stated, transport_tags}
use Rattle.data_dictionary.specs.MessageTypes.{Listed, application_types, session_types}
use Rattle.data_dictionary.specs.Values.{Named, values_of}

unfoldable pub answer : Bool → List ℕ
answer true = codes "Y"
answer false = codes "N"

-- the field's name, and whether it is required
unfoldable pub attributes : Mention → List ℕ
attributes field = codes " name='" ++ (name_of field.tag ++ (codes "' required='" ++ (answer field.required ++ codes "'")))

unfoldable pub line_text : Line → List ℕ
line_text (Field field) = codes "      <field" ++ (attributes field ++ codes "/>\n")
line_text (GroupBegin field) = codes "      <group" ++ (attributes field ++ codes ">\n")
line_text GroupEnd = codes "      </group>\n"

-- the lines of fields outside of groups
unfoldable pub fields_asked : List Mention → List ℕ
fields_asked fields = flat_map (λ field. line_text (Field field)) fields

-- the lines of a table
unfoldable pub table_text : List Row → List ℕ
table_text rows = flat_map line_text (lines_in 0 rows)

unfoldable pub message_head : List ℕ → Listed → List ℕ
message_head category kind = codes "    <message name='" ++ (kind.name ++ (codes "' msgtype='" ++ (kind.code ++ (codes "' msgcat='" ++ (category ++ codes "'>\n")))))

-- a message of this category, admin or app
unfoldable pub message_text : List ℕ → Listed → List ℕ
message_text category kind = message_head category kind ++ (table_text (rows_stated kind) ++ codes "    </message>\n")

unfoldable pub value_text : Named → List ℕ
value_text value = codes "      <value enum='" ++ (value.value ++ (codes "' description='" ++ (value.name ++ codes "'/>\n")))

unfoldable pub values_text : List Named → List ℕ
values_text values = flat_map value_text values

unfoldable pub field_head : ℕ → List ℕ
field_head tag = codes "    <field number='" ++ (decimal tag ++ (codes "' name='" ++ (name_of tag ++ (codes "' type='" ++ (type_name_of (data_type_of tag) ++ codes "'>\n")))))

unfoldable pub field_text : ℕ → List ℕ
field_text tag = field_head tag ++ (values_text (values_of (data_type_of tag)) ++ codes "    </field>\n")

unfoldable pub header_text : List ℕ
header_text = codes "<fix type='FIXT' major='1' minor='1'>\n  <header>\n" ++ (fields_asked frame_begin ++ (table_text header_rows ++ codes "  </header>\n"))

unfoldable pub trailer_text : List ℕ
trailer_text = codes "  <trailer>\n" ++ (fields_asked frame_end ++ codes "  </trailer>\n")

unfoldable pub messages_text : List ℕ → List Listed → List ℕ
messages_text category kinds = codes "  <messages>\n" ++ (flat_map (message_text category) kinds ++ codes "  </messages>\n")

unfoldable pub fields_text : List ℕ → List ℕ
fields_text tags = codes "  <components/>\n  <fields>\n" ++ (flat_map field_text tags ++ codes "  </fields>\n</fix>\n")

unfoldable pub transport_text : List ℕ
transport_text = header_text ++ (messages_text (codes "admin") session_types ++ (trailer_text ++ fields_text transport_tags))

-- in a FIXT session the header and the trailer are the transport's
unfoldable pub application_text : List ℕ
application_text = codes "<fix type='FIX' major='5' minor='0' servicepack='2'>\n  <header/>\n  <trailer/>\n"
    ++ (messages_text (codes "app") application_types ++ fields_text application_tags)

unfoldable pub dictionary_text : Dictionary → List ℕ
dictionary_text Transport = transport_text
dictionary_text Application = application_text
