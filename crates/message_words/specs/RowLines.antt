-- The lines of a row of a trail: of the message that came at it, or of the clock, and of each reply to it.
--
--       row 12 at 20250303-14:30:40.999 from BETA, sequence number 3 in era 1: 35=D|11=b2|..
--           order b2 to sell 5 BASIS1Y @ -1
--       row 12 to BETA: 35=8|37=NONE|..
--           report E18: order b2 to sell BASIS1Y refused, ..
--       row 14 at 20250303-14:30:56.000: the clock, without a message: the first held side of a cross that is due ..
use Rattle.std.specs.Prelude.{ℕ, ◌-◌, ◌==◌, List, [], ◌∷◌, Some, codes, decimal, if◌then◌else◌}
use Rattle.sef_moment.specs.Utc.{utc_text}
use Rattle.fix_dictionary.specs.declared.messages.App.{App}
use Rattle.participants.specs.ParticipantFile.{ParticipantFile}
use Rattle.participants.specs.Relations.{name_of}
use Rattle.venue_rules.specs.declared.trail.TrailRow.{TrailRow}
use Rattle.message_words.specs.Parts.{Part, words_alone}
use Rattle.message_words.specs.Visible.{fix_text, readable}
use Rattle.message_words.specs.Words.{came_words, words}

-- who sent what a row keeps: nobody at a row of the clock
abbrev pub sender_name : ParticipantFile → ℕ → List ℕ
sender_name file who = if who == 0 then [] else name_of file (who - 1)

-- what a row of the clock says
abbrev pub clock_words : List ℕ
clock_words = codes "the clock, without a message: the first held side of a cross that is due enters or is refused"

-- a message that came: its row and moment, who sent it, and what it says
abbrev pub came_said : TrailRow → (from text words : List ℕ) → List Part
came_said r from text words =
    (codes "row ", Some (decimal r.n))
    ∷ (codes " at ", Some (utc_text r.moment))
    ∷ (codes " from ", Some from)
    ∷ (codes ", sequence number ", Some (decimal r.number))
    ∷ (codes " in era ", Some (decimal r.era))
    ∷ (codes ": ", Some text)
    ∷ (codes "\n    ", Some words)
    ∷ words_alone (codes "\n")
    ∷ []

-- the text is the row's own, byte by byte; the words are those of the message that it spells
abbrev pub came_parts : ParticipantFile → TrailRow → App → List Part
came_parts file r a = came_said r (sender_name file r.who) (readable r.text) (came_words a)

abbrev pub clock_parts : TrailRow → List Part
clock_parts r = (codes "row ", Some (decimal r.n)) ∷ (codes " at ", Some (utc_text r.moment)) ∷ (codes ": ", Some clock_words) ∷ words_alone (codes "\n") ∷ []

-- a message to somebody
abbrev pub reply_said : ℕ → (to text words : List ℕ) → List Part
reply_said n to text words =
    (codes "row ", Some (decimal n))
    ∷ (codes " to ", Some to)
    ∷ (codes ": ", Some text)
    ∷ (codes "\n    ", Some words)
    ∷ words_alone (codes "\n")
    ∷ []

abbrev pub reply_parts : ParticipantFile → TrailRow → ℕ → App → List Part
reply_parts file r to a = reply_said r.n (name_of file to) (fix_text a) (words a)
