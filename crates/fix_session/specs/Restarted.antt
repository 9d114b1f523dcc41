-- What a restarted session refuses until it has accepted a number, and the effect, defined alone.
use Rattle.std.specs.Prelude.{◌≡◌, ◌≢◌, ℕ, ◌+◌, ◌<◌, List, [], ◌∷◌, ◌++◌, length, Bool, true, false, Option, Some}
use Rattle.resend_store.specs.declared.entry.Entry.TheVariants.{Session}
use Rattle.fix_session.specs.declared.comp_ids.CompIds.{CompIds}
use Rattle.fix_session.specs.declared.frame.Frame.{Frame}
use Rattle.fix_session.specs.declared.frame.Content.TheVariants.{Logon}
use Rattle.fix_session.specs.declared.plan.AdminReply.TheVariants as admin_reply
use Rattle.fix_session.specs.declared.plan.LogoutText.TheVariants.{NumbersRestarted}
use Rattle.fix_session.specs.declared.plan.Step.{Step}
use Rattle.fix_session.specs.declared.plan.Step.TheVariants.{Did, Dropped}
use Rattle.fix_session.specs.declared.plan.Why.TheVariants as why
use Rattle.fix_session.specs.Body.{frame_in}
use Rattle.fix_session.specs.Reader.{Reader, settled}
use Rattle.fix_session.specs.Runs.{Event, Resume, Push, Step_at}
use Rattle.fix_session.specs.Sent.{admin_reply_frame}
use Rattle.fix_session.specs.State.{State}

-- the line is up, no Logon was heard on it, and no number was accepted ever
pub record AwaitsFirst (s : State) : Type 0 where
  pub up : s.line.up ≡ true
  pub not_logged_on : s.line.logged_on ≡ false
  pub none_accepted : s.line.next_incoming ≡ 1

-- a Logon of the counterparty with this number, interval and ResetSeqNumFlag
pub record IsLogon (f : Frame) (n heartbeat : ℕ) (reset : Option Bool) : Type 0 where
  pub spelled : f.content ≡ Logon heartbeat reset
  pub number : f.number ≡ Some n
  pub from_peer : f.comp_ids_right ≡ true

-- a Logon numbered above 1, without ResetSeqNumFlag: its number may be one of an earlier process
pub record IsOldLogon (f : Frame) : Type 0 where
  pub n : ℕ
  pub heartbeat : ℕ
  pub reset : Option Bool
  pub logon : IsLogon f n heartbeat reset
  pub above : 1 < n
  pub no_reset : reset ≢ Some true

-- the next frame of a restarted session is such a Logon
pub record HearsOldLogon (r : Reader) (s : State) : Type 0 where
  pub awaits : AwaitsFirst s
  pub restarted : s.line.restarted ≡ true
  pub found : List ℕ × List ℕ
  pub is_next : (r.front s.unread).found ≡ Some found
  pub old : IsOldLogon (frame_in r s.ids found.0)

-- no number of either side, no entry and no item is new
pub record IsUnmoved (s new : State) : Type 0 where
  pub ids : new.ids ≡ s.ids
  pub restarted : new.line.restarted ≡ s.line.restarted
  pub next_incoming : new.line.next_incoming ≡ s.line.next_incoming
  pub past : new.past ≡ s.past
  pub entries : new.entries ≡ s.entries
  pub ready : new.ready ≡ s.ready

-- It is refused: the line goes down, one Logout is queued under the next number, and nothing is requested.
pub record StaysRefused (s new : State) (answer : Step) (t : ℕ) (kind : List ℕ) (f : Frame) : Type 0 where
  pub answered : answer ≡ Dropped why.NumbersRestarted
  pub down : new.line.up ≡ false
  pub unmoved : IsUnmoved s new
  pub wire : new.wire ≡ s.wire ++ admin_reply_frame s.ids t kind f.content (length s.entries + 1) (admin_reply.Logout NumbersRestarted)

-- the first Logon of a session is accepted: it spends number 1 and is answered by a Logon
pub record IsAccepted (s new : State) (answer : Step) (t : ℕ) (kind : List ℕ) (f : Frame) (heartbeat : ℕ) (reset : Option Bool) : Type 0 where
  pub answered : answer ≡ Did
  pub up : new.line.up ≡ true
  pub logged_on : new.line.logged_on ≡ true
  pub next_incoming : new.line.next_incoming ≡ 2
  pub past : new.past ≡ s.past
  pub entries : new.entries ≡ s.entries ++ Session ∷ []
  pub ready : new.ready ≡ s.ready
  pub wire : new.wire ≡ s.wire ++ admin_reply_frame s.ids t kind f.content (length s.entries + 1) (admin_reply.Logon heartbeat reset)

-- Tries of a counterparty that keeps its old numbers: each is a connection at a moment, and the bytes that come on it.
pub record Try : Type 0 where
  pub moment : ℕ
  pub bytes : List ℕ

-- the calls of each try
abbrev pub calls_of : List Try → List Event
calls_of [] = []
calls_of (x ∷ tries) = Resume x.moment ∷ Push x.bytes ∷ Step_at x.moment ∷ calls_of tries

-- the first frame of a try is an old Logon
pub record IsOldTry (r : Reader) (ids : CompIds) (x : Try) : Type 0 where
  pub found : List ℕ × List ℕ
  pub is_first : (r.front (settled r x.bytes)).found ≡ Some found
  pub old : IsOldLogon (frame_in r ids found.0)

abbrev pub AreOldTries : Reader → CompIds → List Try → Type 0
AreOldTries r ids [] = Unit {0}
AreOldTries r ids (x ∷ tries) = IsOldTry r ids x × AreOldTries r ids tries
