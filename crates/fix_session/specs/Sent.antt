-- What is numbered for the counterparty, and what the wire carries of it: each message as first sent, and the requested
-- resends (FIXT 1.1, message recovery).
use Rattle.std.specs.Prelude.{ℕ, ◌+◌, List, [], ◌∷◌, ◌++◌, length, Bool, true, Option, Some, None, if◌then◌else◌, decimal, codes}
use Rattle.fix_frame.specs.Frame.{frame}
use Rattle.fix_dictionary.specs.Text.{message_text}
use Rattle.fix_dictionary.specs.Values.{Resend, is_text}
use Rattle.fix_dictionary.specs.declared.messages.App.{App}
use Rattle.fix_dictionary.specs.declared.messages.Admin.{Admin}
use Rattle.fix_dictionary.specs.declared.messages.Admin.TheVariants as admin
use Rattle.fix_dictionary.specs.declared.messages.Body.TheVariants as bodies
use Rattle.fix_dictionary.specs.declared.messages.Header.{Header}
use Rattle.fix_dictionary.specs.declared.messages.Message.{Message}
use Rattle.resend_store.specs.declared.entry.Entry.{Entry}
use Rattle.resend_store.specs.declared.entry.Entry.TheVariants as entry
use Rattle.resend_store.specs.Resent.{Resent, repeated, filled, resent}
use Rattle.resend_store.specs.Stored.{asked}
use Rattle.fix_session.specs.declared.frame.Content.{Content}
use Rattle.fix_session.specs.declared.frame.Content.TheVariants as content
use Rattle.fix_session.specs.declared.comp_ids.CompIds.{CompIds}
use Rattle.fix_session.specs.declared.plan.LogoutText.{LogoutText}
use Rattle.fix_session.specs.declared.plan.LogoutText.TheVariants.{Plain, TooLow, NumberMissing, CompIdProblem, NumbersRestarted}
use Rattle.fix_session.specs.declared.plan.AdminReply.{AdminReply}
use Rattle.fix_session.specs.declared.plan.AdminReply.TheVariants as admin_reply
use Rattle.fix_session.specs.declared.plan.AdminReplies.{AdminReplies}
use Rattle.fix_session.specs.declared.plan.AdminReplies.TheVariants.{Nothing, One, Two, Unspent}
use Rattle.fix_session.specs.declared.plan.Plan.{Plan}
use Rattle.fix_session.specs.State.{State}

-- the text (58) of a Logout
unfoldable pub too_low_text : ℕ → ℕ → List ℕ
too_low_text expecting received =
    codes "MsgSeqNum too low, expecting " ++ (decimal expecting ++ (codes " received " ++ decimal received))

abbrev pub logout_text : LogoutText → Option (List ℕ)
logout_text Plain = None
logout_text (TooLow expecting received) = Some (too_low_text expecting received)
logout_text NumberMissing = Some (codes "MsgSeqNum missing")
logout_text CompIdProblem = Some (codes "CompID problem")
logout_text NumbersRestarted = Some (codes "Sequence numbers began anew, reset (141=Y)")

-- the type of the frame that is rejected (372), where it has the form of an identifier
abbrev pub reference_type : List ℕ → Option (List ℕ)
reference_type kind = if is_text 64 kind then Some kind else None

-- the TestReqID (112) of a TestRequest
abbrev pub test_id : Content → Option (List ℕ)
test_id (content.TestRequest id) = Some id
test_id said = None

-- the session message of a reply, for a frame that states this type and has this content
abbrev pub admin_of : List ℕ → Content → AdminReply → Admin
admin_of kind said (admin_reply.Logon heartbeat reset) = admin.Logon (record { heartbeat_interval = heartbeat; reset = reset })
admin_of kind said admin_reply.Heartbeat = admin.Heartbeat (record { test_id = None })
admin_of kind said admin_reply.HeartbeatReply = admin.Heartbeat (record { test_id = test_id said })
admin_of kind said admin_reply.TestRequest = admin.TestRequest (record { test_id = codes "TEST" })
admin_of kind said (admin_reply.ResendRequest from) = admin.ResendRequest (record { begin = from; end = 0 })
admin_of kind said (admin_reply.Reject of fault) =
    admin.Reject (record {
      reference_number = of;
      reference_tag = fault.tag;
      reference_type = reference_type kind;
      reason = Some fault.reason;
      text = None;
    })
admin_of kind said (admin_reply.Logout text) = admin.Logout (record { text = logout_text text })

-- 43=Y on a resent message
abbrev pub duplicate : Option ℕ → Option Bool
duplicate None = None
duplicate (Some first_sent) = Some true

abbrev pub header_of : CompIds → ℕ → ℕ → Option ℕ → Header
header_of ids number t first_sent =
    record {
      sender = ids.own;
      target = ids.peer;
      number = number;
      sending_time = t;
      possible_duplicate = duplicate first_sent;
      possible_resend = None;
      original_sending_time = first_sent;
      application_version = None;
    }

-- a message, as first sent
abbrev pub admin_message : CompIds → ℕ → ℕ → Admin → Message
admin_message ids number t m = record { header = header_of ids number t None; body = bodies.Admin m }

abbrev pub app_message : CompIds → ℕ → ℕ → App → Message
app_message ids number t app = record { header = header_of ids number t None; body = bodies.App app }

-- a message resent at moment t: an application message under its old number, or a gap fill up to a new number
abbrev pub message_again : CompIds → ℕ → Resent → Message
message_again ids t (repeated number app first_sent) = record { header = header_of ids number t (Some first_sent); body = bodies.App app }
message_again ids t (filled number new) =
    record { header = header_of ids number t (Some t); body = bodies.Admin (admin.SequenceReset (record { gap_fill = Some true; new_number = new })) }

-- the frame of a message
unfoldable pub framed : Message → List ℕ
framed m = frame (decimal (length (message_text m))) (message_text m)

-- the frame of a reply, as first sent
unfoldable pub admin_reply_frame : CompIds → ℕ → List ℕ → Content → ℕ → AdminReply → List ℕ
admin_reply_frame ids t kind said number a = framed (admin_message ids number t (admin_of kind said a))

-- the frames of replies, as first sent, from this number on
abbrev pub sends_frames : CompIds → ℕ → List ℕ → Content → ℕ → AdminReplies → List ℕ
sends_frames ids t kind said number Nothing = []
sends_frames ids t kind said number (One a) = admin_reply_frame ids t kind said number a
sends_frames ids t kind said number (Two a b) =
    admin_reply_frame ids t kind said number a ++ admin_reply_frame ids t kind said (number + 1) b
sends_frames ids t kind said number (Unspent a) = admin_reply_frame ids t kind said number a

-- the frame of a resent message
unfoldable pub again_frame : CompIds → ℕ → Resent → List ℕ
again_frame ids t x = framed (message_again ids t x)

abbrev pub again_frames : CompIds → ℕ → List Resent → List ℕ
again_frames ids t [] = []
again_frames ids t (x ∷ xs) = again_frame ids t x ++ again_frames ids t xs

-- the resends of a request
abbrev pub asked_frames : CompIds → ℕ → List Entry → Option Resend → List ℕ
asked_frames ids t entries None = []
asked_frames ids t entries (Some request) = again_frames ids t (resent request.begin (asked request.begin request.end entries))

-- what a plan writes at moment t: in a new era its messages from number 1 on; else the requested resends of these
-- entries, which are those of the era, then the new messages under the next numbers
unfoldable pub written : CompIds → List Entry → ℕ → List ℕ → Content → Plan → List ℕ
written ids entries t kind said plan =
    if plan.begins
    then sends_frames ids t kind said 1 plan.admin_replies
    else asked_frames ids t entries plan.again ++ sends_frames ids t kind said (length entries + 1) plan.admin_replies

-- the past eras, and the entries of the era, where a new one begins or does not
abbrev pub past_after : Bool → List (List Entry) → List Entry → List (List Entry)
past_after begins past entries = if begins then past ++ entries ∷ [] else past

abbrev pub entries_in : Bool → List Entry → List Entry
entries_in begins entries = if begins then [] else entries

-- the marks of these messages: one that spends no number has none, so the next message has its number too
abbrev pub marks : AdminReplies → List Entry
marks Nothing = []
marks (One a) = entry.Session ∷ []
marks (Two a b) = entry.Session ∷ entry.Session ∷ []
marks (Unspent a) = []

-- the application messages among these entries, in order
abbrev pub apps_of : Entry → List App
apps_of entry.Session = []
apps_of (entry.Application app first_sent) = app ∷ []

abbrev pub apps : List Entry → List App
apps [] = []
apps (e ∷ es) = apps_of e ++ apps es

-- those among the entries of these eras
abbrev pub apps_past : List (List Entry) → List App
apps_past [] = []
apps_past (es ∷ past) = apps es ++ apps_past past

-- the application messages numbered for the counterparty, era after era, in order
abbrev pub numbered_in : List (List Entry) → List Entry → List App
numbered_in past entries = apps_past past ++ apps entries

abbrev pub numbered : State → List App
numbered s = numbered_in s.past s.entries
