-- What is listed of a log: each thing found in it, once and in order, with its place and its bytes; whose session hears
-- a frame, and when; and before the first frame of a session what brings it to that frame's number.
use Rattle.std.specs.Prelude.{ℕ, suc, ◌+◌, ◌-◌, ◌==◌, ◌&&◌, ◌||◌, not, nat_le, nat_lt, Bool, true, false, List, [], ◌∷◌, ◌++◌, length, take, drop, if◌then◌else◌, bytes_eq, codes, decimal, Option, Some, None, Result, Ok, Err}
use Rattle.std.specs.List.{list_any}
use Rattle.fix_fields.specs.Forms.{integer_in}
use Rattle.fix_fields.specs.declared.value.ValueFault.{ValueFault}
use Rattle.fix_frame.specs.Frame.{frame}
use Rattle.participants.specs.ParticipantFile.{ParticipantFile}
use Rattle.participants.specs.Relations.{find_participant, name_of}
use Rattle.sef_moment.specs.Utc.{moment_of, utc_text}
use Rattle.sef_moment.specs.UtcTest.{is_utc}
use Rattle.frame_explanation.specs.declared.frames.Look.{Look}
use Rattle.frame_explanation.specs.declared.frames.Look.TheVariants.{Frame, Broken, Nothing}
use Rattle.frame_explanation.specs.declared.frames.Found.{Found}
use Rattle.frame_explanation.specs.declared.log_items.Source.{Source}
use Rattle.frame_explanation.specs.declared.log_items.Source.TheVariants as source
use Rattle.frame_explanation.specs.declared.log_items.LogItem.{LogItem}
use Rattle.frame_explanation.specs.declared.listing.Stand.{Stand}
use Rattle.frame_explanation.specs.Frames.{extent, plus}
use Rattle.frame_explanation.specs.Parts.{joined}
use Rattle.frame_explanation.specs.Pieces.{value_in}

abbrev pub between : ℕ → ℕ → List ℕ → List ℕ
between start end log = if nat_le start end && nat_le end (length log) then take (end - start) (drop start log) else []

abbrev pub body_of : List ℕ → ℕ → Look → List ℕ
body_of log at (Frame start end) = between (plus at start) (plus at end) log
body_of log at (Broken count) = []
body_of log at Nothing = []

-- What is listed of one thing: where it comes from, its number among those found and its first byte, both from 1, whose
-- session hears it and when, whether a connection begins with it, its bytes, and the body of a frame.
pub record Item : Type 0 where
  pub source : Source
  pub number : ℕ
  pub place : ℕ
  pub who : ℕ
  pub moment : ℕ
  pub connects : Bool
  pub text : List ℕ
  pub body : List ℕ

abbrev pub seen : LogItem → Item
seen listed =
    record { source = listed.source; number = listed.number; place = listed.place; who = listed.who; moment = listed.moment; connects = listed.connects; text = listed.text.items; body = listed.body.items }

-- how a log stands: who sent the last frame, its moment, and who sent any
pub record State : Type 0 where
  pub who : ℕ
  pub moment : ℕ
  pub begun : List ℕ

abbrev pub state : Stand → State
state stand = record { who = stand.who; moment = stand.moment; begun = stand.begun.items }

-- MsgSeqNum (34); 0 where there is none
abbrev pub number_of : Result ℕ ValueFault → ℕ
number_of (Ok n) = n
number_of (Err fault) = 0

abbrev pub number_in : List ℕ → ℕ
number_in body = number_of (integer_in 1 999_999_999 (value_in (codes "34=") body))

-- SendingTime (52), or the last moment
abbrev pub moment_if : List ℕ → ℕ → ℕ
moment_if text last = if is_utc text then moment_of text else last

abbrev pub moment_in : List ℕ → ℕ → ℕ
moment_in body last = moment_if (value_in (codes "52=") body) last

-- whom SenderCompID (49) names, or who sent the last frame
abbrev pub or_last : Option ℕ → ℕ → ℕ
or_last None last = last
or_last (Some who) last = who

abbrev pub sender_in : ParticipantFile → List ℕ → ℕ → ℕ
sender_in names body last = or_last (find_participant names (value_in (codes "49=") body)) last

abbrev pub is_logon : List ℕ → Bool
is_logon body = bytes_eq (value_in (codes "35=") body) (codes "A")

abbrev pub is_repeat : List ℕ → Bool
is_repeat body = bytes_eq (value_in (codes "43=") body) (codes "Y")

abbrev pub is_reset : List ℕ → Bool
is_reset body = bytes_eq (value_in (codes "35=") body) (codes "4")

-- the first frame of a session: a Logon with number 1 or without, or another with number 1 that is no repeat and no
-- SequenceReset
abbrev pub is_first : List ℕ → Bool
is_first body = (is_logon body && nat_lt (number_in body) 2) || (number_in body == 1 && (not (is_repeat body) && not (is_reset body)))

-- a frame that is assumed
abbrev pub assumed : (who moment : ℕ) → Bool → List ℕ → Item
assumed who moment connects body =
    record { source = source.Assumed; number = 0; place = 0; who = who; moment = moment; connects = connects; text = frame (decimal (length body)) body; body = [] }

-- the first fields of a frame that is assumed: its type, CompIDs, number and moment
abbrev pub header : ParticipantFile → (who moment : ℕ) → (kind number : List ℕ) → List ℕ
header names who moment kind number =
    joined (kind ∷ (1 ∷ codes "49=") ∷ name_of names who ∷ (1 ∷ codes "56=") ∷ names.venue ∷ number ∷ (1 ∷ codes "52=") ∷ []) ++ utc_text moment

-- a Logon with number 1
abbrev pub logon_body : ParticipantFile → (who moment : ℕ) → List ℕ
logon_body names who moment =
    header names who moment (codes "35=A") (1 ∷ codes "34=1") ++ joined ((1 ∷ codes "98=0") ∷ (1 ∷ codes "108=0") ∷ (1 ∷ codes "1137=9") ∷ (1 ∷ []) ∷ [])

-- a SequenceReset to this number
abbrev pub reset_body : ParticipantFile → (who moment number : ℕ) → List ℕ
reset_body names who moment number =
    header names who moment (codes "35=4") (1 ∷ codes "34=2") ++ joined ((1 ∷ codes "36=") ∷ decimal number ∷ (1 ∷ []) ∷ [])

-- what brings a session to the first frame that a log has of it: nothing where that is the session's first; else a
-- Logon, and a SequenceReset unless the frame has the next number
abbrev pub session_items : ParticipantFile → (who moment : ℕ) → List ℕ → List Item
session_items names who moment body =
    if is_first body
    then []
    else (
    assumed who moment true (logon_body names who moment)
    ∷ (if nat_lt (number_in body) 3 then [] else assumed who moment false (reset_body names who moment (number_in body)) ∷ [])
    )

abbrev pub has_begun : List ℕ → ℕ → Bool
has_begun begun who = list_any (λ other. other == who) begun

abbrev pub begun_after : List ℕ → ℕ → List ℕ
begun_after begun who = if has_begun begun who then begun else begun ++ who ∷ []

abbrev pub begin_items : ParticipantFile → List ℕ → (who moment : ℕ) → List ℕ → List Item
begin_items names begun who moment body = if has_begun begun who then [] else session_items names who moment body

-- what is listed of a part of the log that no session hears, and of a frame of a participant
abbrev pub unheard_item : Source → State → (number place : ℕ) → (text body : List ℕ) → Item
unheard_item from s number place text body =
    record { source = from; number = number; place = place; who = s.who; moment = s.moment; connects = false; text = text; body = body }

-- a frame comes on a new connection: a Logon, or the first frame of a session
abbrev pub is_new : List ℕ → ℕ → List ℕ → Bool
is_new begun who body = is_logon body || (not (has_begun begun who) && is_first body)

abbrev pub came_item : Bool → (who moment number place : ℕ) → (text body : List ℕ) → Item
came_item connects who moment number place text body =
    record { source = source.Participant; number = number; place = place; who = who; moment = moment; connects = connects; text = text; body = body }

abbrev pub came_items : ParticipantFile → State → (number place : ℕ) → (text body : List ℕ) → List Item
came_items names s number place text body =
    begin_items names s.begun (sender_in names body s.who) (moment_in body s.moment) body
    ++ came_item (is_new s.begun (sender_in names body s.who) body) (sender_in names body s.who) (moment_in body s.moment) number place text body ∷ []

abbrev pub came_after : ParticipantFile → State → List ℕ → State
came_after names s body =
    record {
      who = sender_in names body s.who;
      moment = moment_in body s.moment;
      begun = begun_after s.begun (sender_in names body s.who);
    }

-- what is broken has no body; the venue's frames have the venue's name in 49
abbrev pub is_of_venue : ParticipantFile → List ℕ → Bool
is_of_venue names body = bytes_eq (value_in (codes "49=") body) names.venue

abbrev pub part_items : ParticipantFile → State → (number place : ℕ) → (text body : List ℕ) → List Item
part_items names s number place text body =
    if length body == 0
    then unheard_item source.Broken s number place text body ∷ []
    else (
    if is_of_venue names body
    then unheard_item source.Venue s number place text body ∷ []
    else came_items names s number place text body
    )

abbrev pub part_after : ParticipantFile → State → List ℕ → State
part_after names s body = if length body == 0 then s else (if is_of_venue names body then s else came_after names s body)

abbrev pub found_items : ParticipantFile → List ℕ → State → ℕ → Found → List Item
found_items names log s number found =
    part_items names s number (plus found.at 1) (between found.at (plus found.at (extent found.look)) log) (body_of log found.at found.look)

abbrev pub found_after : ParticipantFile → List ℕ → State → Found → State
found_after names log s found = part_after names s (body_of log found.at found.look)

-- all that was found, the first of it with the number after this one
abbrev pub items_from : ParticipantFile → List ℕ → State → ℕ → List Found → List Item
items_from names log s number [] = []
items_from names log s number (f ∷ found) =
    found_items names log s (plus number 1) f ++ items_from names log (found_after names log s f) (plus number 1) found

abbrev pub items : ParticipantFile → List ℕ → List Found → List Item
items names log found = items_from names log (record { who = 0; moment = 0; begun = [] }) 0 found
