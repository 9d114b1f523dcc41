-- The lines of a body: each field by name, and then its first fault, or its message in words.
--
--       44=2.5 (Price)
--       fault: 38 (OrderQty) is required, and missing (373=1)
use Rattle.std.specs.Prelude.{ℕ, ◌==◌, if◌then◌else◌, List, [], ◌∷◌, ◌++◌, length, Option, Some, None, Result, Ok, Err, codes, decimal}
use Rattle.std.specs.List.{flat_map}
use Rattle.fix_fields.specs.Fields.{Entry}
use Rattle.fix_fields.specs.declared.fields.FieldFault.{FieldFault}
use Rattle.fix_fields.specs.declared.fields.FieldFault.TheVariants as piece
use Rattle.fix_decoder.specs.Messages.{fault_in, message_in}
use Rattle.fix_dictionary.specs.declared.messages.App.{App}
use Rattle.fix_dictionary.specs.declared.messages.Body.{Body}
use Rattle.fix_dictionary.specs.declared.messages.Body.TheVariants as body
use Rattle.fix_validation.specs.declared.faults.DictFault.{DictFault}
use Rattle.fix_validation.specs.declared.faults.DictFault.TheVariants.{Twice, Count, Missing, Format, Range, NoMemory}
use Rattle.message_words.specs.Visible.{readable}
use Rattle.message_words.specs.Words.{came_words, words}
use Rattle.frame_explanation.specs.declared.bodies.Direction.{Direction}
use Rattle.frame_explanation.specs.declared.bodies.Direction.TheVariants.{Came, Sent}
use Rattle.frame_explanation.specs.Names.{field_name}
use Rattle.frame_explanation.specs.Parts.{joined}

abbrev pub named_field : (tag : ℕ) → (value name : List ℕ) → List ℕ
named_field tag value name = joined (codes "    " ∷ decimal tag ∷ codes "=" ∷ value ∷ codes " (" ∷ name ∷ codes ")\n" ∷ [])

abbrev pub field_line : Entry → List ℕ
field_line f = named_field f.0 (readable f.1) (field_name f.0)

abbrev pub rule_of : DictFault → List ℕ
rule_of (Twice tag) = codes "occurs twice, outside of groups or in one instance of a group (373=13)"
rule_of (Count tag) = codes "counts another number of instances than there are, or a member is outside of an instance (373=16)"
rule_of (Missing tag) = codes "is required, and missing (373=1)"
rule_of (Format tag) = codes "has a value that is not of its form (373=6)"
rule_of (Range tag) = codes "has a value out of its range (373=5)"
rule_of NoMemory = []

abbrev pub tag_fault : ℕ → List ℕ → List ℕ
tag_fault tag rule = joined (codes "    fault: " ∷ decimal tag ∷ codes " (" ∷ field_name tag ∷ codes ") " ∷ rule ∷ codes "\n" ∷ [])

abbrev pub fault_line : DictFault → List ℕ
fault_line (Twice tag) = tag_fault tag (rule_of (Twice tag))
fault_line (Count tag) = tag_fault tag (rule_of (Count tag))
fault_line (Missing tag) = tag_fault tag (rule_of (Missing tag))
fault_line (Format tag) = tag_fault tag (rule_of (Format tag))
fault_line (Range tag) = tag_fault tag (rule_of (Range tag))
fault_line NoMemory = []

abbrev pub piece_line : FieldFault → List ℕ
piece_line piece.BadTag = joined (codes "    fault: a piece between two SOHs is no tag=value (373=0)\n" ∷ [])
piece_line (piece.NoValue tag) = tag_fault tag (codes "has no value (373=4)")
piece_line piece.NoMemory = []

-- the words of a message, for who sent it; the session's own messages have none
abbrev pub app_words : Direction → App → List ℕ
app_words Came app = came_words app
app_words Sent app = words app

abbrev pub words_in : Direction → Body → List ℕ
words_in direction (body.App app) = app_words direction app
words_in direction (body.Admin m) = []

abbrev pub words_line : List ℕ → List ℕ → List ℕ
words_line margin text = if length text == 0 then [] else joined (margin ∷ text ∷ codes "\n" ∷ [])

abbrev pub verdict : Direction → Option DictFault → Body → List ℕ
verdict direction None said = words_line (codes "    ") (words_in direction said)
verdict direction (Some fault) said = fault_line fault

abbrev pub named : Direction → List Entry → List ℕ
named direction fields = flat_map field_line fields ++ verdict direction (fault_in fields) (message_in fields).body

-- the lines of a body that is read as fields; of one with a piece that is none, the body as it is, and the fault
abbrev pub unnamed : List ℕ → FieldFault → List ℕ
unnamed body fault = joined (codes "    " ∷ readable body ∷ codes "\n" ∷ []) ++ piece_line fault

abbrev pub body_text : Direction → List ℕ → Result (List Entry) FieldFault → List ℕ
body_text direction body (Ok fields) = named direction fields
body_text direction body (Err fault) = unnamed body fault

abbrev pub sent_words : Option DictFault → Body → List ℕ
sent_words None said = words_in Sent said
sent_words (Some fault) said = []

abbrev pub words_of_body : Result (List Entry) FieldFault → List ℕ
words_of_body (Ok fields) = sent_words (fault_in fields) (message_in fields).body
words_of_body (Err fault) = []

-- the fault of a body, by the tables or for a piece that is no field
abbrev pub first_fault : Option DictFault → List ℕ
first_fault None = []
first_fault (Some fault) = fault_line fault

abbrev pub body_fault : Result (List Entry) FieldFault → List ℕ
body_fault (Ok fields) = first_fault (fault_in fields)
body_fault (Err fault) = piece_line fault
