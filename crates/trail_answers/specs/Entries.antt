-- The text of one message: of the one that came at a row, or of a reply to it. Each has its row. Of a message that came
-- the text is the row's own, byte by byte, as the trail keeps it; its words are those of the message that it spells.
--
--   As lines, the message as FIX has it with | for the byte 1, and then in words:
--       row 12 at 20250303-14:30:40.999 from BETA, sequence number 3 in era 1: 35=D|11=b2|..
--           order b2 to sell 5 BASIS1Y @ -1
--       row 12 to BETA: 35=8|37=NONE|..
--           report E18: order b2 to sell BASIS1Y refused, ..
--   As a row of a table for a spreadsheet (RFC 4180):
--       12,20250303-14:30:40.999,,,,BETA,refused,35=8|37=NONE|..,report E18: ..
--   As an object of JSON (RFC 8259) on a line of its own, whose members are named as the fields of the table, and are
--   null where the field is empty. The text is the message's own, byte by byte: the byte 1 ends each field of it, and
--   no value has one.
--       {"row":12,"moment_utc":"20250303-14:30:40.999","from":null,"number":null,"era":null,"to":"BETA",
--       "kind":"refused","text":"35=8\u0001..","words":"report E18: .."}
use Rattle.std.specs.Prelude.{ℕ, ◌==◌, List, [], ◌∷◌, ◌++◌, Option, Some, None, codes, decimal, if◌then◌else◌}
use Rattle.std.specs.List.{flat_map}
use Rattle.csv.specs.Writing.{row_text}
use Rattle.sef_moment.specs.Utc.{utc_text}
use Rattle.fix_dictionary.specs.Text.{app_text}
use Rattle.fix_dictionary.specs.declared.messages.App.{App}
use Rattle.participants.specs.ParticipantFile.{ParticipantFile}
use Rattle.participants.specs.Relations.{name_of}
use Rattle.venue_rules.specs.declared.replies.Reply.{Reply}
use Rattle.venue_rules.specs.declared.trail.TrailRow.{TrailRow}
use Rattle.venue_rules.specs.Messages.{message}
use Rattle.venue_rules.specs.Run.{Input, Message, Tick}
use Rattle.message_words.specs.declared.form.Form.{Form}
use Rattle.message_words.specs.declared.form.Form.TheVariants.{Lines, Table, Json}
use Rattle.message_words.specs.Cells.{setup}
use Rattle.message_words.specs.Json.{Member, json_null, json_number, json_text, object_line}
use Rattle.message_words.specs.Kinds.{kind_of}
use Rattle.message_words.specs.Parts.{parts_text}
use Rattle.message_words.specs.RowLines.{came_parts, clock_parts, clock_words, reply_parts, sender_name}
use Rattle.message_words.specs.Visible.{fix_text, readable}
use Rattle.message_words.specs.Words.{came_words, words}

-- a number of what was sent: none at a row of the clock
abbrev pub sent_number : ℕ → ℕ → List ℕ
sent_number who number = if who == 0 then [] else decimal number

-- As rows of a table.

abbrev pub field_names : List (List ℕ)
field_names = codes "row" ∷ codes "moment_utc" ∷ codes "from" ∷ codes "number" ∷ codes "era" ∷ codes "to" ∷ codes "kind" ∷ codes "text" ∷ codes "words" ∷ []

-- the row, its moment, who sent what it keeps, under which number and in which era
abbrev pub came_at : ParticipantFile → TrailRow → List (List ℕ)
came_at file r = decimal r.n ∷ utc_text r.moment ∷ sender_name file r.who ∷ sent_number r.who r.number ∷ sent_number r.who r.era ∷ []

-- whom a message goes to, of which kind it is, as FIX has it, and in words
abbrev pub said_fields : (to kind text words : List ℕ) → List (List ℕ)
said_fields to kind text words = to ∷ kind ∷ text ∷ words ∷ []

abbrev pub fields : ParticipantFile → TrailRow → (to kind text words : List ℕ) → List (List ℕ)
fields file r to kind text words = came_at file r ++ said_fields to kind text words

-- of a reply the row and its moment alone: the sender is another's
abbrev pub answered_at : TrailRow → List (List ℕ)
answered_at r = decimal r.n ∷ utc_text r.moment ∷ [] ∷ [] ∷ [] ∷ []

abbrev pub came_fields : ParticipantFile → TrailRow → App → List (List ℕ)
came_fields file r a = fields file r [] (kind_of a) (readable r.text) (came_words a)

abbrev pub clock_fields : ParticipantFile → TrailRow → List (List ℕ)
clock_fields file r = fields file r [] (codes "clock") [] clock_words

abbrev pub reply_fields : ParticipantFile → TrailRow → ℕ → App → List (List ℕ)
reply_fields file r to a = answered_at r ++ said_fields (name_of file to) (kind_of a) (fix_text a) (words a)

-- As objects of JSON.

-- who sent what a row keeps: nobody at a row of the clock
abbrev pub sender_json : ParticipantFile → ℕ → List ℕ
sender_json file who = if who == 0 then json_null else json_text (sender_name file who)

abbrev pub sent_json : ℕ → ℕ → List ℕ
sent_json who number = if who == 0 then json_null else json_number number

-- to whom, of which kind, as FIX has it, and in words, each as JSON has it
abbrev pub members : TrailRow → (from number era to kind text words : List ℕ) → List Member
members r from number era to kind text words =
    (codes "row", json_number r.n)
    ∷ (codes "moment_utc", json_text (utc_text r.moment))
    ∷ (codes "from", from)
    ∷ (codes "number", number)
    ∷ (codes "era", era)
    ∷ (codes "to", to)
    ∷ (codes "kind", kind)
    ∷ (codes "text", text)
    ∷ (codes "words", words)
    ∷ []

abbrev pub came_members : ParticipantFile → TrailRow → App → List Member
came_members file r a = members r (sender_json file r.who) (sent_json r.who r.number) (sent_json r.who r.era) json_null (json_text (kind_of a)) (json_text r.text) (json_text (came_words a))

abbrev pub clock_members : ParticipantFile → TrailRow → List Member
clock_members file r = members r (sender_json file r.who) (sent_json r.who r.number) (sent_json r.who r.era) json_null (json_text (codes "clock")) json_null (json_text clock_words)

abbrev pub reply_members : ParticipantFile → TrailRow → ℕ → App → List Member
reply_members file r to a = members r json_null json_null json_null (json_text (name_of file to)) (json_text (kind_of a)) (json_text (app_text a)) (json_text (words a))

-- In the form that is asked for.

unfoldable pub came_text : Form → ParticipantFile → TrailRow → App → List ℕ
came_text Lines file r a = parts_text (came_parts file r a)
came_text Table file r a = row_text setup (came_fields file r a)
came_text Json file r a = object_line (came_members file r a)

unfoldable pub clock_text : Form → ParticipantFile → TrailRow → List ℕ
clock_text Lines file r = parts_text (clock_parts r)
clock_text Table file r = row_text setup (clock_fields file r)
clock_text Json file r = object_line (clock_members file r)

-- what came
abbrev pub input_text : Form → ParticipantFile → TrailRow → Input → List ℕ
input_text form file r (Message taken t) = came_text form file r taken.item.app
input_text form file r (Tick t) = clock_text form file r

-- a message to a participant
unfoldable pub message_text : Form → ParticipantFile → TrailRow → ℕ → App → List ℕ
message_text Lines file r to a = parts_text (reply_parts file r to a)
message_text Table file r to a = row_text setup (reply_fields file r to a)
message_text Json file r to a = object_line (reply_members file r to a)

-- a reply, as the message that it is sent as
abbrev pub reply_text : Form → ParticipantFile → TrailRow → Reply → List ℕ
reply_text form file r reply = message_text form file r reply.to (message reply.what)

abbrev pub replies_text : Form → ParticipantFile → TrailRow → List Reply → List ℕ
replies_text form file r replies = flat_map (reply_text form file r) replies

-- the same of a reply, where it is to this participant
abbrev pub reply_if : Form → ParticipantFile → TrailRow → ℕ → Reply → List ℕ
reply_if form file r who reply = if reply.to == who then reply_text form file r reply else []

-- what came and all replies to it, or, where it is asked what one participant is owed, the replies to that one
abbrev pub entries_text : Form → ParticipantFile → Option ℕ → TrailRow → Input → List Reply → List ℕ
entries_text form file None r i replies = input_text form file r i ++ replies_text form file r replies
entries_text form file (Some who) r i replies = flat_map (reply_if form file r who) replies

-- the names of the fields stand above a table
abbrev pub heading : Form → List ℕ
heading Lines = []
heading Table = row_text setup field_names
heading Json = []
