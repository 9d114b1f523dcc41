-- The lines of a row to which the venues of two trails, A and B, reply differently.
--
--     row 12 at 20250303-14:30:40.999 from BETA, sequence number 3 in era 1: 35=D|11=b2|..
--         order b2 to sell 5 BASIS1Y @ -1
--     A: row 12 to BETA: 35=8|37=NONE|..
--         report E18: order b2 to sell BASIS1Y refused, ..
--     B: row 12 to BETA: 35=8|37=O9|..
--         report E18: O9 as b2 to sell BASIS1Y entered, left 5, filled so far 0
use Rattle.std.specs.Prelude.{ℕ, ◌==◌, List, ◌++◌, length, bytes_eq, codes, if◌then◌else◌}
use Rattle.std.specs.List.{flat_map}
use Rattle.participants.specs.ParticipantFile.{ParticipantFile}
use Rattle.venue_rules.specs.declared.replies.Reply.{Reply}
use Rattle.venue_rules.specs.declared.trail.TrailRow.{TrailRow}
use Rattle.venue_rules.specs.Messages.{message}
use Rattle.venue_rules.specs.Run.{Input, Message, Tick}
use Rattle.message_words.specs.Parts.{parts_text}
use Rattle.message_words.specs.RowLines.{came_parts, clock_parts, reply_parts, sender_name}

-- what came at a row
abbrev pub input_text : ParticipantFile → TrailRow → Input → List ℕ
input_text file r (Message taken t) = parts_text (came_parts file r taken.item.app)
input_text file r (Tick t) = parts_text (clock_parts r)

abbrev pub label_a : List ℕ
label_a = codes "A: "

abbrev pub label_b : List ℕ
label_b = codes "B: "

-- what came, once; and as each trail has it where its sender has another name
unfoldable pub came_text : (one other : ParticipantFile) → TrailRow → Input → List ℕ
came_text one other r i =
    if bytes_eq (sender_name one r.who) (sender_name other r.who) then input_text one r i
    else ((label_a ++ input_text one r i) ++ (label_b ++ input_text other r i))

abbrev pub reply_text : List ℕ → ParticipantFile → TrailRow → Reply → List ℕ
reply_text label file r reply = label ++ parts_text (reply_parts file r reply.to (message reply.what))

-- the replies of one venue
unfoldable pub replies_text : List ℕ → ParticipantFile → TrailRow → List Reply → List ℕ
replies_text label file r replies = if length replies == 0 then label ++ codes "no replies\n" else flat_map (reply_text label file r) replies
