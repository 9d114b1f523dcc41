-- When a new era begins, and its first state, defined alone (FIXT 1.1, ResetSeqNumFlag).
use Rattle.std.specs.Prelude.{◌≡◌, ℕ, List, [], ◌∷◌, ◌++◌, true, false, Some, None}
use Rattle.resend_store.specs.declared.entry.Entry.TheVariants.{Session}
use Rattle.fix_session.specs.declared.frame.Frame.{Frame}
use Rattle.fix_session.specs.declared.frame.Content.TheVariants.{Logon}
use Rattle.fix_session.specs.declared.plan.AdminReply.TheVariants as admin_reply
use Rattle.fix_session.specs.declared.plan.Step.{Step}
use Rattle.fix_session.specs.declared.plan.Step.TheVariants.{Did, Dropped}
use Rattle.fix_session.specs.declared.plan.Why.TheVariants as why
use Rattle.fix_session.specs.Sent.{admin_reply_frame}
use Rattle.fix_session.specs.State.{State}

-- a Logon of the counterparty with number 1, ResetSeqNumFlag and this heartbeat interval, not a possible duplicate
pub record IsReset (f : Frame) (heartbeat : ℕ) : Type 0 where
  pub spelled : f.content ≡ Logon heartbeat (Some true)
  pub first : f.number ≡ Some 1
  pub from_peer : f.comp_ids_right ≡ true
  pub emitted_once : f.possible_duplicate ≡ false

-- After such a Logon, heard at moment t, both sides number from 1, and each has spent it; no request and no test is
-- outstanding. The numbered entries are kept, the ready items stay, and the reply is queued after the frames queued
-- before.
pub record EraBegins (s new : State) (answer : Step) (t : ℕ) (kind : List ℕ) (f : Frame) (heartbeat : ℕ) : Type 0 where
  pub answered : answer ≡ Did
  pub past : new.past ≡ s.past ++ s.entries ∷ []
  pub entries : new.entries ≡ Session ∷ []
  pub next_incoming : new.line.next_incoming ≡ 2
  pub heartbeat_is : new.line.heartbeat ≡ heartbeat
  pub outstanding_request : new.line.outstanding_request ≡ None
  pub test_request_sent_at : new.line.test_request_sent_at ≡ None
  pub logged_on : new.line.logged_on ≡ true
  pub ready : new.ready ≡ s.ready
  pub wire : new.wire ≡ s.wire ++ admin_reply_frame s.ids t kind f.content 1 (admin_reply.Logon heartbeat (Some true))

-- after 1,000 eras such a Logon ends the connection, with nothing sent or spent
pub record NoEraBegins (s new : State) (answer : Step) : Type 0 where
  pub answered : answer ≡ Dropped why.Reset
  pub up : new.line.up ≡ false
  pub past : new.past ≡ s.past
  pub entries : new.entries ≡ s.entries
  pub next_incoming : new.line.next_incoming ≡ s.line.next_incoming
  pub ready : new.ready ≡ s.ready
  pub wire : new.wire ≡ s.wire
