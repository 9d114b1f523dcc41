-- The text of an explanation.
use Rattle.std.specs.Prelude.{ℕ, ◌-◌, ◌==◌, nat_lt, bytes_eq, if◌then◌else◌, Bool, true, false, List, [], ◌∷◌, ◌++◌, length, Option, Some, None, codes, decimal}
use Rattle.std.specs.List.{flat_map}
use Rattle.sef_moment.specs.Utc.{utc_text}
use Rattle.fix_session.specs.Reader.{Reader}
use Rattle.fix_session.specs.declared.plan.Step.{Step}
use Rattle.fix_session.specs.declared.plan.Step.TheVariants as step
use Rattle.fix_session.specs.declared.plan.Why.{Why}
use Rattle.fix_session.specs.declared.plan.Why.TheVariants as why
use Rattle.participants.specs.ParticipantFile.{ParticipantFile}
use Rattle.participants.specs.Relations.{find_participant, name_of}
use Rattle.message_words.specs.Visible.{readable}
use Rattle.frame_explanation.specs.declared.bodies.Direction.TheVariants.{Came, Sent}
use Rattle.frame_explanation.specs.declared.frames.Found.{Found}
use Rattle.frame_explanation.specs.declared.log_items.Source.{Source}
use Rattle.frame_explanation.specs.declared.log_items.Source.TheVariants as source
use Rattle.frame_explanation.specs.declared.log_items.LogItem.{LogItem}
use Rattle.frame_explanation.specs.declared.log_items.Heard.{Heard}
use Rattle.frame_explanation.specs.declared.log_items.Sent as held
use Rattle.frame_explanation.specs.Bodies.{body_text, words_line, words_of_body}
use Rattle.frame_explanation.specs.Broken as broken
use Rattle.frame_explanation.specs.Frames.{bytes_found, found_in, frames_in}
use Rattle.frame_explanation.specs.Names.{kind_name}
use Rattle.frame_explanation.specs.Parts.{joined}
use Rattle.frame_explanation.specs.Pieces.{value_in}
use Rattle.frame_explanation.specs.Listing.{body_of}

-- the lines before the first frame
abbrev pub nothing_found : ℕ → List ℕ
nothing_found count = joined (codes "no frame: nothing in these " ∷ decimal count ∷ codes " bytes begins with 8=FIXT.1.1|9=, as each frame of the venue does\n" ∷ [])

abbrev pub counts : ℕ → List Found → List ℕ
counts count found = joined (
    codes "frames: "
    ∷ decimal (frames_in found)
    ∷ codes "; broken: "
    ∷ decimal (length found - frames_in found)
    ∷ codes "; other bytes: "
    ∷ decimal (count - bytes_found found)
    ∷ codes " of "
    ∷ decimal count
    ∷ codes "\nanswered by a new venue with an empty book; each session expects the number of its first frame, 2 where that is a repeat of 1 or has none; each moment is the frame's own (52), or the last; one before the last counts as the last; no clock runs, so a held second side that is due enters at the next frame\n"
    ∷ [])

abbrev pub head : ℕ → List Found → List ℕ
head count found = if length found == 0 then nothing_found count else counts count found

-- why a line ends
abbrev pub why_words : Why → List ℕ
why_words why.NotLogon = codes "the first message of a connection has to be a Logon"
why_words why.WrongComp = codes "49 (SenderCompID) or 56 (TargetCompID) is wrong"
why_words why.BadLogon = codes "the Logon has the fault above"
why_words why.NoNumber = codes "34 (MsgSeqNum) is missing, or no number from 1 to 999999999"
why_words why.TooLow = codes "34 (MsgSeqNum) is below the expected number, which the Logout names (58)"
why_words why.PeerLogout = codes "the participant logs out"
why_words why.Silent = codes "a TestRequest was not answered"
why_words why.NumbersSpent = codes "the sequence numbers are used up"
why_words why.Reset = codes "141=Y with 43=Y, with a 34 other than 1, or for one era too many"
why_words why.NumbersRestarted = codes "the venue's process numbers this session from 1, and 34 is above: log on with 141=Y"

-- the CompIDs of a line
abbrev pub ids_line : ParticipantFile → ℕ → List ℕ
ids_line names who = joined (codes "    here 49 has to be " ∷ name_of names who ∷ codes " and 56 " ∷ names.venue ∷ codes "\n" ∷ [])

abbrev pub ids_if : ParticipantFile → ℕ → Why → List ℕ
ids_if names who why.WrongComp = ids_line names who
ids_if names who why.NotLogon = []
ids_if names who why.BadLogon = []
ids_if names who why.NoNumber = []
ids_if names who why.TooLow = []
ids_if names who why.PeerLogout = []
ids_if names who why.Silent = []
ids_if names who why.NumbersSpent = []
ids_if names who why.Reset = []
ids_if names who why.NumbersRestarted = []

-- why nothing is read: the length of the body, or the connection's end
abbrev pub unread_line : ℕ → List ℕ
unread_line size = if nat_lt 8_192 size
    then joined (codes "    session: ignores it, as its body has " ∷ decimal size ∷ codes " bytes, and the venue reads 8192 at most\n" ∷ [])
    else joined (codes "    session: reads nothing, as the connection has ended; a Logon on a new one comes first\n" ∷ [])

-- what the session does with a frame whose body has this number of bytes
abbrev pub step_line : ParticipantFile → (who size : ℕ) → Step → List ℕ
step_line names who size step.Idle = unread_line size
step_line names who size step.Did = joined (codes "    session: no message for the venue\n" ∷ [])
step_line names who size (step.App number) = joined (codes "    session: message " ∷ decimal number ∷ codes " is for the venue\n" ∷ [])
step_line names who size (step.Dropped why) = joined (codes "    session: disconnects: " ∷ why_words why ∷ codes "\n" ∷ []) ++ ids_if names who why

abbrev pub step_if : ParticipantFile → LogItem → Option Step → List ℕ
step_if names listed None = []
step_if names listed (Some step) = step_line names listed.who (length listed.body.items) step

-- a message that has words, and is not for the venue: its number is not the expected one
abbrev pub order_line : List ℕ
order_line = joined (codes "    34 (MsgSeqNum) is not the expected number: above it there is a gap, and this message is asked for again; below it, with 43=Y, this one repeats another\n" ∷ [])

abbrev pub order_of : Option Step → List ℕ
order_of (Some step.Did) = order_line
order_of (Some step.Idle) = []
order_of (Some (step.App number)) = []
order_of (Some (step.Dropped why)) = []
order_of None = []

abbrev pub order_if : (words : List ℕ) → Option Step → List ℕ
order_if words step = if length words == 0 then [] else order_of step

abbrev pub outcome : Reader → ParticipantFile → Heard → List ℕ
outcome r names heard = step_if names heard.item heard.step ++ order_if (words_of_body (r.fields heard.item.body.items)) heard.step

-- a ResendRequest names the expected number
abbrev pub gap_line : List ℕ → List ℕ
gap_line number = joined (codes "        a gap: the expected number is " ∷ number ∷ codes ", and each message from it on is asked for again\n" ∷ [])

abbrev pub is_resend_request : List ℕ → Bool
is_resend_request body = bytes_eq (value_in (codes "35=") body) (codes "2")

abbrev pub gap_if : List ℕ → List ℕ
gap_if body = if is_resend_request body then gap_line (value_in (codes "7=") body) else []

-- what a message says: its words, if it has some, or the gap that it names
abbrev pub meaning : Reader → List ℕ → List ℕ
meaning r body = words_line (codes "        ") (words_of_body (r.fields body)) ++ gap_if body

-- a message that a participant is sent: its type, its text as FIX has it, and what it says
abbrev pub sent_line : (name kind fix : List ℕ) → List ℕ
sent_line name kind fix = joined (codes "    to " ∷ name ∷ codes ", " ∷ kind ∷ codes ": " ∷ fix ∷ codes "\n" ∷ [])

abbrev pub reply : Reader → (name body : List ℕ) → List ℕ
reply r name body =
    sent_line name (kind_name (value_in (codes "35=") body)) (readable body)
    ++ meaning r body

abbrev pub reply_found : Reader → (name bytes : List ℕ) → Found → List ℕ
reply_found r name bytes found = reply r name (body_of bytes found.at found.look)

abbrev pub sent_text : Reader → ParticipantFile → held.Sent → List ℕ
sent_text r names sent = flat_map (reply_found r (name_of names sent.to) sent.bytes.items) (found_in sent.bytes.items)

-- nobody is sent anything
abbrev pub is_silent : List held.Sent → Bool
is_silent [] = true
is_silent (s ∷ sent) = if length s.bytes.items == 0 then is_silent sent else false

abbrev pub answers : Reader → ParticipantFile → List held.Sent → List ℕ
answers r names sent = if is_silent sent then joined (codes "    nobody is sent anything\n" ∷ []) else flat_map (sent_text r names) sent

-- a frame that came: where it is, its fields, its fault or its words, what the session does, whether its number is
-- another than the expected one, and what each is sent
abbrev pub heading_line : (number place : ℕ) → (name moment kind : List ℕ) → List ℕ
heading_line number place name moment kind = joined (
    codes "\nframe "
    ∷ decimal number
    ∷ codes " at byte "
    ∷ decimal place
    ∷ codes ", to the session of "
    ∷ name
    ∷ codes " at "
    ∷ moment
    ∷ codes ": "
    ∷ kind
    ∷ codes "\n"
    ∷ [])

abbrev pub heading : ParticipantFile → LogItem → List ℕ
heading names listed = heading_line listed.number listed.place (name_of names listed.who) (utc_text listed.moment) (kind_name (value_in (codes "35=") listed.body.items))

-- a frame whose 49 names nobody
abbrev pub stranger_if : Option ℕ → List ℕ
stranger_if None = joined (codes "    49 (SenderCompID) names no participant of the file: taken as sent by the one above\n" ∷ [])
stranger_if (Some who) = []

abbrev pub stranger : ParticipantFile → List ℕ → List ℕ
stranger names body = stranger_if (find_participant names (value_in (codes "49=") body))

abbrev pub came : Reader → ParticipantFile → Heard → List ℕ
came r names heard =
    heading names heard.item
    ++ (body_text Came heard.item.body.items (r.fields heard.item.body.items)
    ++ (stranger names heard.item.body.items ++ (outcome r names heard ++ answers r names heard.sent.items)))

-- a frame that the venue sent
abbrev pub of_venue : Reader → LogItem → List ℕ
of_venue r listed =
    joined (codes "\nframe " ∷ decimal listed.number ∷ codes " at byte " ∷ decimal listed.place ∷ codes ", sent by the venue, and not answered: " ∷ kind_name (value_in (codes "35=") listed.body.items) ∷ codes "\n" ∷ [])
    ++ body_text Sent listed.body.items (r.fields listed.body.items)

-- what begins as a frame and is none
abbrev pub none_line : (number place : ℕ) → (shown : List ℕ) → List ℕ
none_line number place shown = joined (codes "\nbroken frame " ∷ decimal number ∷ codes " at byte " ∷ decimal place ∷ codes ": " ∷ shown ∷ codes "\n" ∷ [])

abbrev pub passed_line : List ℕ
passed_line = joined (codes "    the venue ignores it as garbled, once as many bytes have come as BodyLength (9) says: until then it answers nothing; no number is used\n" ∷ [])

abbrev pub no_frame : LogItem → List ℕ
no_frame listed = none_line listed.number listed.place (readable listed.text.items) ++ (broken.why listed.text.items ++ passed_line)

-- a frame that is assumed
abbrev pub assumed : LogItem → List ℕ
assumed listed = joined (codes "\nassumed, as it is not in the log: " ∷ readable listed.text.items ∷ codes "\n" ∷ [])

abbrev pub heard_as : Source → Reader → ParticipantFile → Heard → List ℕ
heard_as source.Participant r names heard = came r names heard
heard_as source.Assumed r names heard = assumed heard.item
heard_as source.Venue r names heard = of_venue r heard.item
heard_as source.Broken r names heard = no_frame heard.item

abbrev pub heard_text : Reader → ParticipantFile → Heard → List ℕ
heard_text r names heard = heard_as heard.item.source r names heard
