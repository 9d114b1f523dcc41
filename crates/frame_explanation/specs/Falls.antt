-- Where the number of a sender falls: the sender, or its session, began again at 1.
--
--     frame 79: the venue's number to ALPHA fell from 9 to 1: restart or reset; what it resends is new to the venue
use Rattle.std.specs.Prelude.{ℕ, zero, suc, ◌==◌, ◌&&◌, not, nat_lt, Bool, true, false, List, [], ◌∷◌, ◌++◌, Option, Some, None, if◌then◌else◌, bytes_eq, codes, decimal}
use Rattle.participants.specs.ParticipantFile.{ParticipantFile}
use Rattle.participants.specs.Relations.{find_participant, name_of}
use Rattle.frame_explanation.specs.declared.bodies.Direction.{Direction}
use Rattle.frame_explanation.specs.declared.bodies.Direction.TheVariants.{Came, Sent}
use Rattle.frame_explanation.specs.declared.log_items.Source.{Source}
use Rattle.frame_explanation.specs.declared.log_items.Source.TheVariants as source
use Rattle.frame_explanation.specs.declared.log_items.LogItem.{LogItem}
use Rattle.frame_explanation.specs.declared.log_items.Heard.{Heard}
use Rattle.frame_explanation.specs.Listing.{is_repeat, is_reset, number_in}
use Rattle.frame_explanation.specs.Parts.{joined}
use Rattle.frame_explanation.specs.Pieces.{value_in}

-- of the frames of a participant, those that it sent
abbrev pub is_by : Direction → ℕ → LogItem → Bool
is_by Came who item = item.who == who
is_by Sent who item = false

abbrev pub is_the : Option ℕ → ℕ → Bool
is_the None who = false
is_the (Some other) who = other == who

-- of the venue's frames, those that TargetCompID (56) sends to the participant
abbrev pub is_to : Direction → ParticipantFile → ℕ → LogItem → Bool
is_to Came names who item = false
is_to Sent names who item = is_the (find_participant names (value_in (codes "56=") item.body.items)) who

-- a frame of one side of a participant's session; none that is assumed, or broken
abbrev pub flows_as : Source → ParticipantFile → Direction → ℕ → LogItem → Bool
flows_as source.Participant names direction who item = is_by direction who item
flows_as source.Venue names direction who item = is_to direction names who item
flows_as source.Assumed names direction who item = false
flows_as source.Broken names direction who item = false

-- it has a number of its own: one from 1 on, of no repeat (43=Y) and no SequenceReset
abbrev pub is_numbered : List ℕ → Bool
is_numbered body = nat_lt 0 (number_in body) && (not (is_repeat body) && not (is_reset body))

abbrev pub counts_on : ParticipantFile → Direction → ℕ → LogItem → Bool
counts_on names direction who item = flows_as item.source names direction who item && is_numbered item.body.items

abbrev pub asks_reset : List ℕ → Bool
asks_reset body = bytes_eq (value_in (codes "141=") body) (codes "Y")

abbrev pub unasked : Direction → List ℕ
unasked Came = codes "reset, another store, or a repeat without 43=Y"
unasked Sent = codes "restart or reset"

abbrev pub cause : Direction → Bool → List ℕ
cause direction true = codes "reset (141=Y)"
cause direction false = unasked direction

abbrev pub subject : Direction → List ℕ
subject Came = codes ": the number of "
subject Sent = codes ": the venue's number to "

abbrev pub consequence : Direction → List ℕ
consequence Came = codes "\n"
consequence Sent = codes "; what it resends is new to the venue\n"

abbrev pub fall_line : Direction → (number : ℕ) → (name : List ℕ) → (last now : ℕ) → (cause : List ℕ) → List ℕ
fall_line direction number name last now cause = joined (
    codes "    frame "
    ∷ decimal number
    ∷ subject direction
    ∷ name
    ∷ codes " fell from "
    ∷ decimal last
    ∷ codes " to "
    ∷ decimal now
    ∷ codes ": "
    ∷ cause
    ∷ consequence direction
    ∷ [])

-- The number of a frame is below that of the last one.
abbrev pub fall_below : ParticipantFile → Direction → ℕ → ℕ → LogItem → List ℕ
fall_below names direction who last item =
    if nat_lt (number_in item.body.items) last
    then fall_line direction item.number (name_of names who) last (number_in item.body.items) (cause direction (asks_reset item.body.items))
    else []

abbrev pub fall_behind : ParticipantFile → Direction → ℕ → Option ℕ → LogItem → List ℕ
fall_behind names direction who None item = []
fall_behind names direction who (Some last) item = fall_below names direction who last item

-- a frame, behind one with this number, and the last number behind it
abbrev pub fall_at : ParticipantFile → Direction → ℕ → Option ℕ → LogItem → List ℕ
fall_at names direction who last item = if counts_on names direction who item then fall_behind names direction who last item else []

abbrev pub last_at : ParticipantFile → Direction → ℕ → Option ℕ → LogItem → Option ℕ
last_at names direction who last item = if counts_on names direction who item then Some (number_in item.body.items) else last

abbrev pub falls_from : ParticipantFile → Direction → ℕ → Option ℕ → List Heard → List ℕ
falls_from names direction who last [] = []
falls_from names direction who last (h ∷ heard) = fall_at names direction who last h.item ++ falls_from names direction who (last_at names direction who last h.item) heard

-- the falls of both sides of a participant's session, and of the sessions of this number of participants
abbrev pub falls_of : ParticipantFile → List Heard → ℕ → List ℕ
falls_of names heard who = falls_from names Sent who None heard ++ falls_from names Came who None heard

abbrev pub falls_below : ParticipantFile → List Heard → ℕ → List ℕ
falls_below names heard zero = []
falls_below names heard (suc who) = falls_below names heard who ++ falls_of names heard who
