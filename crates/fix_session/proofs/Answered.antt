-- The result of a step: Idle only where no frame is unread or the line is down, and App(n) exactly where the ready list
-- grew by item n.
use Rattle.std.proofs.Common.{◌≡◌, ℕ, List, ◌++◌, length, append-nil, Bool, true, false, Option, Some, None, refl, inl, inr}
use Rattle.std.specs.Prelude.{max, nat_lt, nat_le, if◌then◌else◌}
use Rattle.fix_dictionary.specs.Values.{Resend}
use Rattle.fix_dictionary.specs.declared.messages.Item.{Item}
use Rattle.fix_session.specs.declared.frame.Frame.{Frame}
use Rattle.fix_session.specs.declared.frame.Content.{Content}
use Rattle.fix_session.specs.declared.frame.Content.TheVariants.{Logon, ResendRequest, SequenceReset, Logout, Application, Faulty}
use Rattle.fix_session.specs.declared.frame.FaultyKind.TheVariants as faulty
use Rattle.fix_session.specs.declared.frame.SeqNumCheck.{SeqNumCheck}
use Rattle.fix_session.specs.declared.frame.SeqNumCheck.TheVariants.{Missing, TooLow, Expected, TooHigh}
use Rattle.fix_session.specs.declared.session_state.TimerAction.{TimerAction}
use Rattle.fix_session.specs.declared.session_state.TimerAction.TheVariants as tick_asks
use Rattle.fix_session.specs.declared.plan.AdminReply.{AdminReply}
use Rattle.fix_session.specs.declared.plan.AdminReply.TheVariants as admin_reply
use Rattle.fix_session.specs.declared.plan.Plan.{Plan}
use Rattle.fix_session.specs.declared.plan.AdminReplies.TheVariants.{One}
use Rattle.fix_session.specs.declared.plan.Why.{Why}
use Rattle.fix_session.specs.declared.session_state.SessionState.{SessionState}
use Rattle.fix_session.specs.declared.plan.Step.{Step}
use Rattle.fix_session.specs.declared.plan.Step.TheVariants.{Idle, Did, App, Dropped}
use Rattle.fix_session.specs.Chain.{counts, asks, era_asked, last_era, seq_num_check}
use Rattle.fix_session.specs.State.{State, era_of}
use Rattle.fix_session.specs.Ticks.{timer_action}
use Rattle.fix_session.specs.Table.{affordable, logon_refusal, is_outstanding, before_logon, after_logon, of_peer, wrong_comp, reset, reset_by_check, below, above, ahead, in_order, by_check, from_peer, may_precede, logon_above, logon, plan_of, plan_in_era, by_era, is_spent, are_spent}
use Rattle.fix_session.specs.Reader.{Reader}
use Rattle.fix_session.specs.Body.{frame_in}
use Rattle.fix_session.specs.Machine.{step, step_on, moved, plan_for, item_of, tick, tick_by, sends_now, AtEnd, Grows}
use Rattle.fix_session.proofs.Rows.{if_either}

abbrev IsApplication : Content → Type 0
IsApplication (Application app) = Unit {0}
IsApplication said = ⊥

-- the possible answers to a frame of this content
abbrev IsWork : Content → Step → Type 0
IsWork said Idle = ⊥
IsWork said Did = Unit {0}
IsWork said (App n) = IsApplication said
IsWork said (Dropped why) = Unit {0}

abbrev Works : Content → Plan → Type 0
Works said plan = IsWork said plan.answer

below_works : (said : Content) (s : SessionState) (duplicate : Bool) (n : ℕ) → Works said (below s duplicate n)
below_works said s true n = tt
below_works said s false n = tt

logon_above_works : (said : Content) (s : SessionState) (heartbeat : ℕ) (again : Option Bool) (n : ℕ) → Works said (logon_above s heartbeat again n)
logon_above_works said s heartbeat again n = if_either (Works said) (may_precede s) _ _ tt tt

logon_works : (said : Content) (s : SessionState) (entries : ℕ) (duplicate : Bool) (heartbeat : ℕ) (again : Option Bool) (check : SeqNumCheck) → Works said (logon s entries duplicate heartbeat again check)
logon_works said s entries duplicate heartbeat again Missing = tt
logon_works said s entries duplicate heartbeat again (TooLow n) = if_either (Works said) (asks again) _ _ tt (below_works said s duplicate n)
logon_works said s entries duplicate heartbeat again Expected = if_either (Works said) (counts again duplicate s.next_incoming entries) _ _ tt tt
logon_works said s entries duplicate heartbeat again (TooHigh n) = if_either (Works said) (asks again) _ _ tt (logon_above_works said s heartbeat again n)

of_peer_works : (said : Content) (s : SessionState) (logon_refusal : Option Why) (plan : Plan) → Works said plan → Works said (of_peer s logon_refusal plan)
of_peer_works said s (Some reason) plan h = tt
of_peer_works said s None plan h = h

before_works : (s : SessionState) (entries : ℕ) (right duplicate : Bool) (check : SeqNumCheck) (said : Content) → Works said (before_logon s entries right duplicate check said)
before_works s entries right duplicate check (Logon heartbeat again) =
    let said : Content = Logon heartbeat again in
    of_peer_works said s (logon_refusal check right) _ (logon_works said s entries duplicate heartbeat again check)
before_works s entries right duplicate check (Faulty faulty.Logon fault) = of_peer_works (Faulty faulty.Logon fault) s (logon_refusal check right) _ tt
before_works s entries right duplicate check (Faulty faulty.Logout fault) = tt
before_works s entries right duplicate check (Faulty faulty.Other fault) = tt
before_works s entries right duplicate check said = tt

wrong_comp_works : (said : Content) (s : SessionState) (check : SeqNumCheck) → Works said (wrong_comp s check)
wrong_comp_works said s Missing = tt
wrong_comp_works said s (TooLow n) = tt
wrong_comp_works said s Expected = tt
wrong_comp_works said s (TooHigh n) = tt

reset_works : (said : Content) (s : SessionState) (n new : ℕ) → Works said (reset s n new)
reset_works said s n new = if_either (Works said) (nat_le s.next_incoming new) _ _ tt tt

ahead_works : (said : Content) (s : SessionState) (n : ℕ) (again : Option Resend) → Works said (ahead s n again)
ahead_works said s n again = if_either (Works said) (is_outstanding s.outstanding_request s.next_incoming) _ _ tt tt

above_works : (s : SessionState) (n : ℕ) (said : Content) → Works said (above s n said)
above_works s n (ResendRequest asked) = ahead_works (ResendRequest asked) s n (Some asked)
above_works s n Logout = tt
above_works s n (Faulty faulty.Logout fault) = tt
above_works s n said = ahead_works said s n None

in_order_works : (s : SessionState) (said : Content) → Works said (in_order s said)
in_order_works s (SequenceReset gap_fill new) = if_either (Works (SequenceReset gap_fill new)) (nat_lt s.next_incoming new) _ _ tt tt
in_order_works s said = tt

by_place_works : (s : SessionState) (duplicate : Bool) (said : Content) (check : SeqNumCheck) → Works said (by_check s duplicate said check)
by_place_works s duplicate said Missing = tt
by_place_works s duplicate said (TooLow n) = below_works said s duplicate n
by_place_works s duplicate said Expected = in_order_works s said
by_place_works s duplicate said (TooHigh n) = above_works s n said

reset_by_place_works : (said : Content) (s : SessionState) (new : ℕ) (check : SeqNumCheck) → Works said (reset_by_check s new check)
reset_by_place_works said s new Missing = tt
reset_by_place_works said s new (TooLow n) = reset_works said s n new
reset_by_place_works said s new Expected = reset_works said s s.next_incoming new
reset_by_place_works said s new (TooHigh n) = reset_works said s n new

from_peer_works : (s : SessionState) (duplicate : Bool) (said : Content) (check : SeqNumCheck) → Works said (from_peer s duplicate said check)
from_peer_works s duplicate (SequenceReset true new) check = by_place_works s duplicate (SequenceReset true new) check
from_peer_works s duplicate (SequenceReset false new) check = reset_by_place_works (SequenceReset false new) s new check
from_peer_works s duplicate said check = by_place_works s duplicate said check

after_works : (s : SessionState) (right duplicate : Bool) (check : SeqNumCheck) (said : Content) → Works said (after_logon s right duplicate check said)
after_works s true duplicate check said = from_peer_works s duplicate said check
after_works s false duplicate check said = wrong_comp_works said s check

plan_in_works : (s : SessionState) (entries : ℕ) (f : Frame) → Works f.content (plan_in_era s entries f)
plan_in_works s entries f =
    if_either (Works f.content) s.logged_on _ _ (after_works s f.comp_ids_right f.possible_duplicate (seq_num_check f.number s.next_incoming) f.content)
    (before_works s entries f.comp_ids_right f.possible_duplicate (seq_num_check f.number s.next_incoming) f.content)

by_era_works : (said : Content) (s : SessionState) (era : ℕ) (asked : Option ℕ) (plan : Plan) → Works said plan → Works said (by_era s era asked plan)
by_era_works said s era (Some heartbeat) plan h = if_either (Works said) (nat_lt era last_era) _ _ tt tt
by_era_works said s era None plan h = h

affordable_works : (said : Content) (s : SessionState) (entries : ℕ) (plan : Plan) → Works said plan → Works said (affordable s entries plan)
affordable_works said s entries plan h = if_either (Works said) (is_spent entries plan) _ _ tt h

plan_works : (s : State) (f : Frame) → Works f.content (plan_for s f)
plan_works s f =
    affordable_works f.content s.line (length s.entries) (plan_of s.line (era_of s.past) (length s.entries) f)
    (by_era_works f.content s.line (era_of s.past) (era_asked f s.line.next_incoming (length s.entries)) (plan_in_era s.line (length s.entries) f) (plan_in_works s.line (length s.entries) f))

abbrev step_by : Reader → State → ℕ → Bool → Option (List ℕ × List ℕ) → State × Step
step_by r s t up found = if up then step_on r s (max s.line.moment t) found else (moved s (max s.line.moment t), Idle)

work_is_no_end : (r : Reader) (new : State) (said : Content) (answer : Step) → IsWork said answer → AtEnd r new answer
work_is_no_end r new said Idle work = absurd work
work_is_no_end r new said Did work = tt
work_is_no_end r new said (App n) work = tt
work_is_no_end r new said (Dropped why) work = tt

end_by : (r : Reader) (s : State) (t : ℕ) (up : Bool) (found : Option (List ℕ × List ℕ)) → s.line.up ≡ up → (r.front s.unread).found ≡ found
    → AtEnd r (step_by r s t up found).0 (step_by r s t up found).1
end_by r s t false found down is = inl down
end_by r s t true None up none = inr none
end_by r s t true (Some found) up is =
    let f = frame_in r s.ids found.0 in
    work_is_no_end r (step_by r s t true (Some found)).0 f.content (plan_for s f).answer (plan_works s f)

pub idle_at_the_end : (r : Reader) (s : State) (t : ℕ) → AtEnd r (step r s t).0 (step r s t).1
idle_at_the_end r s t = end_by r s t s.line.up (r.front s.unread).found refl refl

-- the item that joins the ready list

item_grows : (era : ℕ) (ready : List Item) (said : Content) (answer : Step) → IsWork said answer → Grows era ready (ready ++ item_of era said answer) answer
item_grows era ready said Idle work = absurd work
item_grows era ready (Application app) Did work = append-nil ready
item_grows era ready said Did work = append-nil ready
item_grows era ready (Application app) (App n) work = (app, refl)
item_grows era ready said (App n) work = absurd work
item_grows era ready (Application app) (Dropped why) work = append-nil ready
item_grows era ready said (Dropped why) work = append-nil ready

step_grows_by : (r : Reader) (s : State) (t : ℕ) (up : Bool) (found : Option (List ℕ × List ℕ)) → Grows (era_of s.past) s.ready (step_by r s t up found).0.ready (step_by r s t up found).1
step_grows_by r s t false found = refl
step_grows_by r s t true None = refl
step_grows_by r s t true (Some found) =
    let f = frame_in r s.ids found.0 in
    item_grows (era_of s.past) s.ready f.content (plan_for s f).answer (plan_works s f)

pub step_grows : (r : Reader) (s : State) (t : ℕ) → Grows (era_of s.past) s.ready (step r s t).0.ready (step r s t).1
step_grows r s t = step_grows_by r s t s.line.up (r.front s.unread).found

sends_grows : (s : State) (t : ℕ) (message : AdminReply) (test_request_sent_at : Option ℕ) → Grows (era_of s.past) s.ready (sends_now s t message test_request_sent_at).0.ready (sends_now s t message test_request_sent_at).1
sends_grows s t message test_request_sent_at =
    if_either (λ (p : State × Step). Grows (era_of s.past) s.ready p.0.ready p.1) (are_spent (length s.entries) (One message)) _ _ refl refl

tick_grows_by : (s : State) (t : ℕ) (asked : TimerAction) → Grows (era_of s.past) s.ready (tick_by s t asked).0.ready (tick_by s t asked).1
tick_grows_by s t tick_asks.Nothing = refl
tick_grows_by s t tick_asks.Heartbeat = sends_grows s t admin_reply.Heartbeat s.line.test_request_sent_at
tick_grows_by s t tick_asks.TestRequest = sends_grows s t admin_reply.TestRequest (Some t)
tick_grows_by s t tick_asks.Silent = refl

pub tick_grows : (s : State) (t : ℕ) → Grows (era_of s.past) s.ready (tick s t).0.ready (tick s t).1
tick_grows s t = tick_grows_by s (max s.line.moment t) (timer_action s.line (max s.line.moment t))
