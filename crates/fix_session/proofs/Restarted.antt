-- A restarted session that has accepted no number refuses a Logon above 1, and nothing else so.
use Rattle.std.proofs.Common.{◌≡◌, ◌≢◌, ℕ, ◌+◌, ◌<◌, List, [], ◌∷◌, ◌++◌, length, max, Bool, true, false, not, Option, Some, None, refl, sym, ap, ◌∙◌, subst, cond, arith, append-nil}
use Rattle.std.specs.Prelude.{◌&&◌, ◌||◌, ◌==◌, nat_lt, nat_le}
use Rattle.std.proofs.lemmas.Bool.{and_parts}
use Rattle.std.proofs.lemmas.Bool.Decides.{nat_tests}
use Rattle.fix_dictionary.specs.Values.{Resend}
use Rattle.fix_dictionary.specs.declared.messages.Item.{Item}
use Rattle.resend_store.specs.declared.entry.Entry.{Entry}
use Rattle.fix_session.specs.declared.comp_ids.CompIds.{CompIds}
use Rattle.fix_session.specs.declared.frame.Frame.{Frame}
use Rattle.fix_session.specs.declared.frame.Content.{Content}
use Rattle.fix_session.specs.declared.frame.Content.TheVariants.{Logon, ResendRequest, SequenceReset, Logout, Application, Faulty}
use Rattle.fix_session.specs.declared.frame.FaultyKind.TheVariants as faulty
use Rattle.fix_session.specs.declared.frame.SeqNumCheck.{SeqNumCheck}
use Rattle.fix_session.specs.declared.frame.SeqNumCheck.TheVariants.{Missing, TooLow, Expected, TooHigh}
use Rattle.fix_session.specs.declared.plan.AdminReply.{AdminReply}
use Rattle.fix_session.specs.declared.plan.AdminReply.TheVariants as admin_reply
use Rattle.fix_session.specs.declared.plan.AdminReplies.TheVariants.{One}
use Rattle.fix_session.specs.declared.plan.Plan.{Plan}
use Rattle.fix_session.specs.declared.plan.Step.{Step}
use Rattle.fix_session.specs.declared.plan.Step.TheVariants.{Idle, Did, Dropped}
use Rattle.fix_session.specs.declared.plan.Why.TheVariants as why
use Rattle.fix_session.specs.declared.session_state.SessionState.{SessionState}
use Rattle.fix_session.specs.declared.session_state.TimerAction.{TimerAction}
use Rattle.fix_session.specs.declared.session_state.TimerAction.TheVariants as tick_asks
use Rattle.fix_session.specs.Body.{frame_in, kind_in}
use Rattle.fix_session.specs.Chain.{asks, begins_anew, counts, era_asked, is_one, is_unspent, last_era, seq_num_check}
use Rattle.fix_session.specs.Machine.{step, step_on, heard_frame, item_of, moved, plan_for, planned, sends_now, tick, tick_by}
use Rattle.fix_session.specs.Reader.{Reader, settled}
use Rattle.fix_session.specs.Restarted.{AreOldTries, AwaitsFirst, HearsOldLogon, IsAccepted, IsLogon, IsOldLogon, IsOldTry, IsUnmoved, StaysRefused, Try, calls_of}
use Rattle.fix_session.specs.Runs.{Event, Push, Step_at, Tick_at, Break, Resume, Send, Pop, Unpop, Take_wire, History, begin, happens, run, popped}
use Rattle.fix_session.specs.Sent.{written}
use Rattle.fix_session.specs.State.{State, era_of, resumed}
use Rattle.fix_session.specs.Table.{above, affordable, after_logon, ahead, are_numbers_spent, are_spent, before_logon, below, by_check, by_era, from_peer, in_order, is_outstanding, is_spent, last_number, dropped, logged_on, logon, logon_ahead, logon_above, logon_refusal, of_peer, may_precede, numbers_restarted, plan_in_era, plan_of, reset, reset_by_check, wrong_comp}
use Rattle.fix_session.specs.Ticks.{timer_action}
use Rattle.fix_session.proofs.Rows.{if_either}
use Rattle.fix_session.proofs.Steps.{step_heard}

-- an `if` of a test whose value is known
on_false : {A : Type 0} (b : Bool) (x y : A) → b ≡ false → cond b x y ≡ y
on_false true x y is = cc
on_false false x y is = refl

asks_not : (reset : Option Bool) → reset ≢ Some true → asks reset ≡ false
asks_not None never = refl
asks_not (Some false) never = refl
asks_not (Some true) never = absurd (never refl)

-- the refusal, row by row

logon_row : (s : SessionState) (entries : ℕ) (duplicate : Bool) (heartbeat : ℕ) (reset : Option Bool) (n : ℕ) → asks reset ≡ false → may_precede s ≡ true → logon s entries duplicate heartbeat reset (TooHigh n) ≡ numbers_restarted s
logon_row s entries duplicate heartbeat reset n no_reset precedes = rw (no_reset, precedes) refl

before_row : (s : SessionState) (entries : ℕ) (right duplicate : Bool) (check : SeqNumCheck) (content : Content) (heartbeat : ℕ) (reset : Option Bool) (n : ℕ) → right ≡ true → check ≡ TooHigh n → content ≡ Logon heartbeat reset → asks reset ≡ false → may_precede s ≡ true
    → before_logon s entries right duplicate check content ≡ numbers_restarted s
before_row s entries right duplicate check content heartbeat reset n is_right is_above spelled no_reset precedes =
    rw (is_right, is_above, spelled) (logon_row s entries duplicate heartbeat reset n no_reset precedes)

above_one : (number : Option ℕ) (next_incoming n : ℕ) → number ≡ Some n → next_incoming ≡ 1 → 1 < n → seq_num_check number next_incoming ≡ TooHigh n
above_one number next_incoming n is first more =
    let low : nat_lt n 1 ≡ false = grind (arith, nat_tests) in
    let same : n == 1 ≡ false = grind (arith, nat_tests) in
    rw (is, first, low, same) refl

none_asked : (f : Frame) (next_incoming entries heartbeat : ℕ) (reset : Option Bool) → f.content ≡ Logon heartbeat reset → asks reset ≡ false → era_asked f next_incoming entries ≡ None
none_asked f next_incoming entries heartbeat reset spelled no_reset =
    let none : begins_anew f.content ≡ None = rw (spelled, no_reset) refl in
    if_either (λ (x : Option ℕ). x ≡ None) (f.comp_ids_right && (not f.possible_duplicate && (is_one f.number && not (is_unspent next_incoming entries)))) _ _ none refl

one_fits : (entries : ℕ) → entries < last_number → nat_lt last_number (entries + 1) ≡ false
one_fits entries few = grind (arith, nat_tests)

-- where no era is asked for and one number is left, the plan is that of the row
plan_is : (s : SessionState) (era entries : ℕ) (f : Frame) (plan : Plan) → era_asked f s.next_incoming entries ≡ None → plan_in_era s entries f ≡ plan → is_spent entries (record plan { begins = false }) ≡ false
    → affordable s entries (plan_of s era entries f) ≡ record plan { begins = false }
plan_is s era entries f plan none within fits =
    ap (λ (asked : Option ℕ). affordable s entries (by_era s era asked (plan_in_era s entries f))) none
    ∙ ap (λ (p : Plan). affordable s entries (record p { begins = false })) within
    ∙ on_false (is_spent entries (record plan { begins = false })) _ _ fits

opening_is : (s : SessionState) (entries : ℕ) (f : Frame) → s.logged_on ≡ false → plan_in_era s entries f ≡ before_logon s entries f.comp_ids_right f.possible_duplicate (seq_num_check f.number s.next_incoming) f.content
opening_is s entries f off = on_false s.logged_on _ _ off

refusal_is : (s : SessionState) (era entries : ℕ) (f : Frame) → s.logged_on ≡ false → s.next_incoming ≡ 1 → s.restarted ≡ true → IsOldLogon f → entries < last_number → affordable s entries (plan_of s era entries f) ≡ numbers_restarted s
refusal_is s era entries f off first restarted old few =
    let no_reset = asks_not old.reset old.no_reset in
    let precedes : may_precede s ≡ true = rw (restarted, first) refl in
    plan_is s era entries f (numbers_restarted s) (none_asked f s.next_incoming entries old.heartbeat old.reset old.logon.spelled no_reset)
    (opening_is s entries f off
    ∙ before_row s entries f.comp_ids_right f.possible_duplicate (seq_num_check f.number s.next_incoming) f.content old.heartbeat old.reset old.n old.logon.from_peer (above_one f.number s.next_incoming old.n old.logon.number first old.above) old.logon.spelled no_reset precedes)
    (one_fits entries few)

-- such an answer makes no item ready
none_ready : (era : ℕ) (said : Content) (ready : List Item) → ready ++ item_of era said (Dropped why.NumbersRestarted) ≡ ready
none_ready era (Application app) ready = append-nil ready
none_ready era said ready = append-nil ready

planned_refused : (s : State) (t : ℕ) (rest kind : List ℕ) (f : Frame) → StaysRefused s (planned s t rest kind f.content (numbers_restarted s.line)) (Dropped why.NumbersRestarted) t kind f
unfolding written
planned_refused s t rest kind f =
    record {
      answered = refl;
      down = refl;
      unmoved = record { ids = refl; restarted = refl; next_incoming = refl; past = refl; entries = append-nil s.entries; ready = none_ready (era_of s.past) f.content s.ready };
      wire = refl;
    }

heard_refused : (s : State) (t : ℕ) (rest kind : List ℕ) (f : Frame) → plan_for s f ≡ numbers_restarted s.line → StaysRefused s (heard_frame s t rest kind f).0 (heard_frame s t rest kind f).1 t kind f
heard_refused s t rest kind f is =
    subst (λ (p : Plan). StaysRefused s (planned s t rest kind f.content p) p.answer t kind f) (sym is) (planned_refused s t rest kind f)

pub refused : (r : Reader) (s : State) (t : ℕ) (h : HearsOldLogon r s) → length s.entries < last_number → StaysRefused s (step r s t).0 (step r s t).1 (max s.line.moment t) (kind_in h.found.0) (frame_in r s.ids h.found.0)
refused r s t h few =
    subst (λ (p : State × Step). StaysRefused s p.0 p.1 (max s.line.moment t) (kind_in h.found.0) (frame_in r s.ids h.found.0)) (sym (step_heard r s t h.found h.awaits.up h.is_next))
    (heard_refused s (max s.line.moment t) (settled r h.found.1) (kind_in h.found.0) (frame_in r s.ids h.found.0)
    (refusal_is s.line (era_of s.past) (length s.entries) (frame_in r s.ids h.found.0) h.awaits.not_logged_on h.awaits.none_accepted h.restarted h.old few))

-- the first Logon

accepted_row : (s : SessionState) (entries : ℕ) (right duplicate : Bool) (check : SeqNumCheck) (content : Content) (heartbeat : ℕ) (reset : Option Bool) → right ≡ true → check ≡ Expected → content ≡ Logon heartbeat reset → counts reset duplicate s.next_incoming entries ≡ true
    → before_logon s entries right duplicate check content ≡ logged_on s heartbeat reset
accepted_row s entries right duplicate check content heartbeat reset is_right is_due spelled is_first = rw (is_right, is_due, spelled, is_first) refl

at_one : (number : Option ℕ) (next_incoming : ℕ) → number ≡ Some 1 → next_incoming ≡ 1 → seq_num_check number next_incoming ≡ Expected
at_one number next_incoming is first = rw (is, first) refl

-- a first Logon that counts asks for no new era
first_asks_none : (f : Frame) (next_incoming entries heartbeat : ℕ) (reset : Option Bool) → f.content ≡ Logon heartbeat reset → counts reset f.possible_duplicate next_incoming entries ≡ true → era_asked f next_incoming entries ≡ None
first_asks_none f next_incoming entries heartbeat reset spelled is_first = rw spelled (by f.comp_ids_right f.possible_duplicate (is_one f.number) (is_unspent next_incoming entries) (asks reset) is_first)
  where
    by : (right duplicate one unspent asked : Bool) → (not asked || (not duplicate && unspent)) ≡ true → cond (right && (not duplicate && (one && not unspent))) (cond asked (Some heartbeat) None) None ≡ None
    by right duplicate one unspent false is = if_either (λ (x : Option ℕ). x ≡ None) (right && (not duplicate && (one && not unspent))) _ _ refl refl
    by false duplicate one unspent true is = refl
    by true true one unspent true is = refl
    by true false false unspent true is = refl
    by true false true true true is = refl
    by true false true false true is = cc

acceptance_is : (s : SessionState) (era entries : ℕ) (f : Frame) (heartbeat : ℕ) (reset : Option Bool) → s.logged_on ≡ false → s.next_incoming ≡ 1 → IsLogon f 1 heartbeat reset → counts reset f.possible_duplicate s.next_incoming entries ≡ true → entries < last_number
    → affordable s entries (plan_of s era entries f) ≡ logged_on s heartbeat reset
acceptance_is s era entries f heartbeat reset off first logon is_first few =
    plan_is s era entries f (logged_on s heartbeat reset) (first_asks_none f s.next_incoming entries heartbeat reset logon.spelled is_first)
    (opening_is s entries f off
    ∙ accepted_row s entries f.comp_ids_right f.possible_duplicate (seq_num_check f.number s.next_incoming) f.content heartbeat reset logon.from_peer (at_one f.number s.next_incoming logon.number first) logon.spelled is_first)
    (one_fits entries few)

none_did : (era : ℕ) (said : Content) (ready : List Item) → ready ++ item_of era said Did ≡ ready
none_did era (Application app) ready = append-nil ready
none_did era said ready = append-nil ready

planned_accepted : (s : State) (t : ℕ) (rest kind : List ℕ) (f : Frame) (heartbeat : ℕ) (reset : Option Bool) → s.line.next_incoming ≡ 1 → IsAccepted s (planned s t rest kind f.content (logged_on s.line heartbeat reset)) Did t kind f heartbeat reset
unfolding written
planned_accepted s t rest kind f heartbeat reset first =
    record {
      answered = refl;
      up = refl;
      logged_on = refl;
      next_incoming = ap (λ n. n + 1) first;
      past = refl;
      entries = refl;
      ready = none_did (era_of s.past) f.content s.ready;
      wire = refl;
    }

heard_accepted : (s : State) (t : ℕ) (rest kind : List ℕ) (f : Frame) (heartbeat : ℕ) (reset : Option Bool) → s.line.next_incoming ≡ 1 → plan_for s f ≡ logged_on s.line heartbeat reset
    → IsAccepted s (heard_frame s t rest kind f).0 (heard_frame s t rest kind f).1 t kind f heartbeat reset
heard_accepted s t rest kind f heartbeat reset first is =
    subst (λ (p : Plan). IsAccepted s (planned s t rest kind f.content p) p.answer t kind f heartbeat reset) (sym is) (planned_accepted s t rest kind f heartbeat reset first)

pub accepted : (r : Reader) (s : State) (t heartbeat : ℕ) (reset : Option Bool) (found : List ℕ × List ℕ) → AwaitsFirst s → (r.front s.unread).found ≡ Some found → IsLogon (frame_in r s.ids found.0) 1 heartbeat reset
    → counts reset (frame_in r s.ids found.0).possible_duplicate 1 (length s.entries) ≡ true → length s.entries < last_number
    → IsAccepted s (step r s t).0 (step r s t).1 (max s.line.moment t) (kind_in found.0) (frame_in r s.ids found.0) heartbeat reset
accepted r s t heartbeat reset found awaits is logon is_first few =
    let f : Frame = frame_in r s.ids found.0 in
    let first : counts reset f.possible_duplicate s.line.next_incoming (length s.entries) ≡ true = subst (λ (n : ℕ). counts reset f.possible_duplicate n (length s.entries) ≡ true) (sym awaits.none_accepted) is_first in
    subst (λ (p : State × Step). IsAccepted s p.0 p.1 (max s.line.moment t) (kind_in found.0) (frame_in r s.ids found.0) heartbeat reset) (sym (step_heard r s t found awaits.up is))
    (heard_accepted s (max s.line.moment t) (settled r found.1) (kind_in found.0) f heartbeat reset awaits.none_accepted
    (acceptance_is s.line (era_of s.past) (length s.entries) f heartbeat reset awaits.not_logged_on awaits.none_accepted logon first few))

-- The cause of the refusal. No row of a line that is logged on answers so.

abbrev is_refusal : Step → Bool
is_refusal (Dropped why.NumbersRestarted) = true
is_refusal answer = false

abbrev Else : Plan → Type 0
Else plan = is_refusal plan.answer ≡ false

below_else : (s : SessionState) (duplicate : Bool) (n : ℕ) → Else (below s duplicate n)
below_else s true n = refl
below_else s false n = refl

wrong_comp_else : (s : SessionState) (check : SeqNumCheck) → Else (wrong_comp s check)
wrong_comp_else s Missing = refl
wrong_comp_else s (TooLow n) = refl
wrong_comp_else s Expected = refl
wrong_comp_else s (TooHigh n) = refl

reset_else : (s : SessionState) (n new : ℕ) → Else (reset s n new)
reset_else s n new = if_either Else (nat_le s.next_incoming new) _ _ refl refl

ahead_else : (s : SessionState) (n : ℕ) (again : Option Resend) → Else (ahead s n again)
ahead_else s n again = if_either Else (is_outstanding s.outstanding_request s.next_incoming) _ _ refl refl

above_else : (s : SessionState) (n : ℕ) (said : Content) → Else (above s n said)
above_else s n (ResendRequest asked) = ahead_else s n (Some asked)
above_else s n Logout = refl
above_else s n (Faulty faulty.Logout fault) = refl
above_else s n said = ahead_else s n None

in_order_else : (s : SessionState) (said : Content) → Else (in_order s said)
in_order_else s (SequenceReset gap_fill new) = if_either Else (nat_lt s.next_incoming new) _ _ refl refl
in_order_else s said = refl

by_check_else : (s : SessionState) (duplicate : Bool) (said : Content) (check : SeqNumCheck) → Else (by_check s duplicate said check)
by_check_else s duplicate said Missing = refl
by_check_else s duplicate said (TooLow n) = below_else s duplicate n
by_check_else s duplicate said Expected = in_order_else s said
by_check_else s duplicate said (TooHigh n) = above_else s n said

reset_by_check_else : (s : SessionState) (new : ℕ) (check : SeqNumCheck) → Else (reset_by_check s new check)
reset_by_check_else s new Missing = refl
reset_by_check_else s new (TooLow n) = reset_else s n new
reset_by_check_else s new Expected = reset_else s s.next_incoming new
reset_by_check_else s new (TooHigh n) = reset_else s n new

from_peer_else : (s : SessionState) (duplicate : Bool) (said : Content) (check : SeqNumCheck) → Else (from_peer s duplicate said check)
from_peer_else s duplicate (SequenceReset true new) check = by_check_else s duplicate (SequenceReset true new) check
from_peer_else s duplicate (SequenceReset false new) check = reset_by_check_else s new check
from_peer_else s duplicate said check = by_check_else s duplicate said check

after_else : (s : SessionState) (right duplicate : Bool) (check : SeqNumCheck) (said : Content) → Else (after_logon s right duplicate check said)
after_else s true duplicate check said = from_peer_else s duplicate said check
after_else s false duplicate check said = wrong_comp_else s check

-- a plan answers so only where this holds
abbrev Only : Type 0 → Plan → Type 0
Only Q plan = plan.answer ≡ Dropped why.NumbersRestarted → Q

none_else : (Q : Type 0) (plan : Plan) → Else plan → Only Q plan
none_else Q plan is answer = let both : is_refusal plan.answer ≡ true = rw answer refl in cc

-- what a Logon row knows where it refuses
record Knows (s : SessionState) (right : Bool) (check : SeqNumCheck) (said : Content) : Type 0 where
  n : ℕ
  heartbeat : ℕ
  reset : Option Bool
  is_right : right ≡ true
  is_above : check ≡ TooHigh n
  spelled : said ≡ Logon heartbeat reset
  no_reset : asks reset ≡ false
  precedes : may_precede s ≡ true

above_only : (Q : Type 0) (s : SessionState) (heartbeat : ℕ) (reset : Option Bool) (n : ℕ) (precedes : Bool) → (precedes ≡ true → Q) → Only Q (cond precedes (numbers_restarted s) (logon_ahead s heartbeat reset n))
above_only Q s heartbeat reset n true knows = λ is. knows refl
above_only Q s heartbeat reset n false knows = λ is. cc

asked_only : (Q : Type 0) (s : SessionState) (heartbeat : ℕ) (reset : Option Bool) (n : ℕ) (asked : Bool) → (asked ≡ false → may_precede s ≡ true → Q) → Only Q (cond asked (dropped s why.Reset) (logon_above s heartbeat reset n))
asked_only Q s heartbeat reset n true knows = λ is. cc
asked_only Q s heartbeat reset n false knows = above_only Q s heartbeat reset n (may_precede s) (knows refl)

logon_only : (s : SessionState) (entries : ℕ) (duplicate : Bool) (heartbeat : ℕ) (reset : Option Bool) (check : SeqNumCheck) → Only (Knows s true check (Logon heartbeat reset)) (logon s entries duplicate heartbeat reset check)
logon_only s entries duplicate heartbeat reset Missing = λ is. cc
logon_only s entries duplicate heartbeat reset (TooLow n) =
    none_else (Knows s true (TooLow n) (Logon heartbeat reset)) (logon s entries duplicate heartbeat reset (TooLow n)) (if_either Else (asks reset) _ _ refl (below_else s duplicate n))
logon_only s entries duplicate heartbeat reset Expected =
    none_else (Knows s true Expected (Logon heartbeat reset)) (logon s entries duplicate heartbeat reset Expected) (if_either Else (counts reset duplicate s.next_incoming entries) _ _ refl refl)
logon_only s entries duplicate heartbeat reset (TooHigh n) =
    asked_only (Knows s true (TooHigh n) (Logon heartbeat reset)) s heartbeat reset n (asks reset)
    (λ no_reset. λ precedes. record { n = n; heartbeat = heartbeat; reset = reset; is_right = refl; is_above = refl; spelled = refl; no_reset = no_reset; precedes = precedes })

spelled_only : (s : SessionState) (entries : ℕ) (right duplicate : Bool) (check : SeqNumCheck) (heartbeat : ℕ) (reset : Option Bool) → Only (Knows s right check (Logon heartbeat reset)) (before_logon s entries right duplicate check (Logon heartbeat reset))
spelled_only s entries right duplicate Missing heartbeat reset = λ is. cc
spelled_only s entries true duplicate (TooLow n) heartbeat reset = logon_only s entries duplicate heartbeat reset (TooLow n)
spelled_only s entries true duplicate Expected heartbeat reset = logon_only s entries duplicate heartbeat reset Expected
spelled_only s entries true duplicate (TooHigh n) heartbeat reset = logon_only s entries duplicate heartbeat reset (TooHigh n)
spelled_only s entries false duplicate (TooLow n) heartbeat reset = λ is. cc
spelled_only s entries false duplicate Expected heartbeat reset = λ is. cc
spelled_only s entries false duplicate (TooHigh n) heartbeat reset = λ is. cc

faulty_else : (s : SessionState) (right : Bool) (check : SeqNumCheck) → Else (of_peer s (logon_refusal check right) (dropped s why.BadLogon))
faulty_else s right Missing = refl
faulty_else s true (TooLow n) = refl
faulty_else s true Expected = refl
faulty_else s true (TooHigh n) = refl
faulty_else s false (TooLow n) = refl
faulty_else s false Expected = refl
faulty_else s false (TooHigh n) = refl

before_only : (s : SessionState) (entries : ℕ) (right duplicate : Bool) (check : SeqNumCheck) (said : Content) → Only (Knows s right check said) (before_logon s entries right duplicate check said)
before_only s entries right duplicate check (Logon heartbeat reset) = spelled_only s entries right duplicate check heartbeat reset
before_only s entries right duplicate check (Faulty faulty.Logon fault) = none_else (Knows s right check (Faulty faulty.Logon fault)) (before_logon s entries right duplicate check (Faulty faulty.Logon fault)) (faulty_else s right check)
before_only s entries right duplicate check (Faulty faulty.Logout fault) = λ is. cc
before_only s entries right duplicate check (Faulty faulty.Other fault) = λ is. cc
before_only s entries right duplicate check said = λ is. cc

-- what a plan knows that refuses
record Refuses (s : SessionState) (f : Frame) : Type 0 where
  off : s.logged_on ≡ false
  knows : Knows s f.comp_ids_right (seq_num_check f.number s.next_incoming) f.content

within_only : (s : SessionState) (entries : ℕ) (f : Frame) (on : Bool) → s.logged_on ≡ on
    → Only (Refuses s f) (cond on (after_logon s f.comp_ids_right f.possible_duplicate (seq_num_check f.number s.next_incoming) f.content) (before_logon s entries f.comp_ids_right f.possible_duplicate (seq_num_check f.number s.next_incoming) f.content))
within_only s entries f true is =
    none_else (Refuses s f) (after_logon s f.comp_ids_right f.possible_duplicate (seq_num_check f.number s.next_incoming) f.content) (after_else s f.comp_ids_right f.possible_duplicate (seq_num_check f.number s.next_incoming) f.content)
within_only s entries f false is = λ answer. record { off = is; knows = before_only s entries f.comp_ids_right f.possible_duplicate (seq_num_check f.number s.next_incoming) f.content answer }

era_only : (Q : Type 0) (s : SessionState) (era : ℕ) (asked : Option ℕ) (plan : Plan) → Only Q plan → Only Q (by_era s era asked plan)
era_only Q s era (Some heartbeat) plan only = none_else Q (by_era s era (Some heartbeat) plan) (if_either Else (nat_lt era last_era) _ _ refl refl)
era_only Q s era None plan only = only

plan_only : (s : State) (f : Frame) → Only (Refuses s.line f) (plan_for s f)
plan_only s f =
    let Q : Type 0 = Refuses s.line f in
    if_either (Only Q) (is_spent (length s.entries) (plan_of s.line (era_of s.past) (length s.entries) f)) _ _ (λ is. cc)
    (era_only Q s.line (era_of s.past) (era_asked f s.line.next_incoming (length s.entries)) (plan_in_era s.line (length s.entries) f) (within_only s.line (length s.entries) f s.line.logged_on refl))

by_number : (m next_incoming n : ℕ) (low same : Bool) → nat_lt m next_incoming ≡ low → (m == next_incoming) ≡ same → cond low (TooLow m) (cond same Expected (TooHigh m)) ≡ TooHigh n → (m ≡ n) × (next_incoming < m)
by_number m next_incoming n true same at_least apart is = cc
by_number m next_incoming n false true at_least apart is = cc
by_number m next_incoming n false false at_least apart is = (cc, grind (arith, nat_tests))

number_above : (number : Option ℕ) (next_incoming n : ℕ) → seq_num_check number next_incoming ≡ TooHigh n → (number ≡ Some n) × (next_incoming < n)
number_above None next_incoming n is = cc
number_above (Some m) next_incoming n is =
    let parts = by_number m next_incoming n (nat_lt m next_incoming) (m == next_incoming) refl refl is in
    (ap (λ (k : ℕ). Some k) parts.0, subst (λ (k : ℕ). next_incoming < k) parts.0 parts.1)

not_yes : (reset : Option Bool) → asks reset ≡ false → reset ≢ Some true
not_yes None is = λ yes. cc
not_yes (Some false) is = λ yes. cc
not_yes (Some true) is = λ yes. cc

is_one_of : (n : ℕ) → (n == 1) ≡ true → n ≡ 1
is_one_of n is = grind (arith, nat_tests)

hears : (r : Reader) (s : State) (found : List ℕ × List ℕ) → s.line.up ≡ true → (r.front s.unread).found ≡ Some found → Refuses s.line (frame_in r s.ids found.0) → HearsOldLogon r s
hears r s found up is why =
    let parts = and_parts s.line.restarted (s.line.next_incoming == 1) why.knows.precedes in
    let first : s.line.next_incoming ≡ 1 = is_one_of s.line.next_incoming parts.1 in
    let number = number_above (frame_in r s.ids found.0).number s.line.next_incoming why.knows.n why.knows.is_above in
    record {
      awaits = record { up = up; not_logged_on = why.off; none_accepted = first };
      restarted = parts.0;
      found = found;
      is_next = is;
      old = record {
        n = why.knows.n;
        heartbeat = why.knows.heartbeat;
        reset = why.knows.reset;
        logon = record { spelled = why.knows.spelled; number = number.0; from_peer = why.knows.is_right };
        above = subst (λ (k : ℕ). k < why.knows.n) first number.1;
        no_reset = not_yes why.knows.reset why.knows.no_reset;
      };
    }

cause_by : (r : Reader) (s : State) (t : ℕ) (up : Bool) (found : Option (List ℕ × List ℕ)) → s.line.up ≡ up → (r.front s.unread).found ≡ found
    → (cond up (step_on r s t found) (moved s t, Idle)).1 ≡ Dropped why.NumbersRestarted → HearsOldLogon r s
cause_by r s t false found down is answer = cc
cause_by r s t true None up is answer = cc
cause_by r s t true (Some found) up is answer = hears r s found up is (plan_only s (frame_in r s.ids found.0) answer)

pub cause : (r : Reader) (s : State) (t : ℕ) → (step r s t).1 ≡ Dropped why.NumbersRestarted → HearsOldLogon r s
cause r s t answer = cause_by r s (max s.line.moment t) s.line.up (r.front s.unread).found refl refl answer

-- a tick
sends_else : (s : State) (t : ℕ) (message : AdminReply) (test_request_sent_at : Option ℕ) → is_refusal (sends_now s t message test_request_sent_at).1 ≡ false
sends_else s t message test_request_sent_at = if_either (λ (p : State × Step). is_refusal p.1 ≡ false) (are_spent (length s.entries) (One message)) _ _ refl refl

tick_by_else : (s : State) (t : ℕ) (asked : TimerAction) → is_refusal (tick_by s t asked).1 ≡ false
tick_by_else s t tick_asks.Nothing = refl
tick_by_else s t tick_asks.Heartbeat = sends_else s t admin_reply.Heartbeat s.line.test_request_sent_at
tick_by_else s t tick_asks.TestRequest = sends_else s t admin_reply.TestRequest (Some t)
tick_by_else s t tick_asks.Silent = refl

refuses_not : (answer : Step) → is_refusal answer ≡ false → answer ≢ Dropped why.NumbersRestarted
refuses_not answer is = λ refusal. let both : is_refusal answer ≡ true = rw refusal refl in cc

pub tick_else : (s : State) (t : ℕ) → (tick s t).1 ≢ Dropped why.NumbersRestarted
tick_else s t = refuses_not (tick s t).1 (tick_by_else s (max s.line.moment t) (timer_action s.line (max s.line.moment t)))

-- no call changes whether a session was restarted

abbrev Same : State → State → Type 0
Same s new = new.line.restarted ≡ s.line.restarted

step_same : (r : Reader) (s : State) (t : ℕ) (up : Bool) (found : Option (List ℕ × List ℕ)) → Same s (cond up (step_on r s t found) (moved s t, Idle)).0
step_same r s t false found = refl
step_same r s t true None = refl
step_same r s t true (Some found) = refl

sends_same : (s : State) (t : ℕ) (message : AdminReply) (test_request_sent_at : Option ℕ) → Same s (sends_now s t message test_request_sent_at).0
sends_same s t message test_request_sent_at = if_either (λ (p : State × Step). Same s p.0) (are_spent (length s.entries) (One message)) _ _ refl refl

tick_by_same : (s : State) (t : ℕ) (asked : TimerAction) → Same s (tick_by s t asked).0
tick_by_same s t tick_asks.Nothing = refl
tick_by_same s t tick_asks.Heartbeat = sends_same s t admin_reply.Heartbeat s.line.test_request_sent_at
tick_by_same s t tick_asks.TestRequest = sends_same s t admin_reply.TestRequest (Some t)
tick_by_same s t tick_asks.Silent = refl

popped_same : (h : History) (ready : List Item) → Same h.session (popped h ready).session
popped_same h [] = refl
popped_same h (x ∷ rest) = refl

event_same : (r : Reader) (h : History) (e : Event) → Same h.session (happens r h e).session
event_same r h (Push piece) = if_either (Same h.session) h.session.line.up _ _ refl refl
event_same r h (Step_at t) = step_same r h.session (max h.session.line.moment t) h.session.line.up (r.front h.session.unread).found
event_same r h (Tick_at t) = tick_by_same h.session (max h.session.line.moment t) (timer_action h.session.line (max h.session.line.moment t))
event_same r h Break = refl
event_same r h (Resume t) = refl
event_same r h (Send app t) = if_either (λ (new : History). Same h.session new.session) (are_numbers_spent h.session) _ _ refl refl
event_same r h Pop = popped_same h h.session.ready
event_same r h Unpop = refl
event_same r h Take_wire = refl

run_same : (r : Reader) (events : List Event) (h : History) → Same h.session (run r events h).session
run_same r [] h = refl
run_same r (e ∷ events) h = run_same r events (happens r h e) ∙ event_same r h e

pub lasts : (r : Reader) (restarted : Bool) (ids : CompIds) (events : List Event) → (run r events (begin restarted ids)).session.line.restarted ≡ restarted
lasts r restarted ids events = run_same r events (begin restarted ids)

pub never : (r : Reader) (ids : CompIds) (events : List Event) (t : ℕ) → (step r (run r events (begin false ids)).session t).1 ≢ Dropped why.NumbersRestarted
never r ids events t = λ answer.
    let yes = (cause r (run r events (begin false ids)).session t answer).restarted in
    let other = lasts r false ids events in
    cc

-- any number of tries

unmoved_then : (s middle new : State) → IsUnmoved s middle → IsUnmoved middle new → IsUnmoved s new
unmoved_then s middle new one two =
    record {
      ids = two.ids ∙ one.ids;
      restarted = two.restarted ∙ one.restarted;
      next_incoming = two.next_incoming ∙ one.next_incoming;
      past = two.past ∙ one.past;
      entries = two.entries ∙ one.entries;
      ready = two.ready ∙ one.ready;
    }

-- the state in which the first frame of a try is heard
abbrev heard_at : Reader → State → Try → State
heard_at r s x = record (resumed s (max s.line.moment x.moment)) { unread = settled r x.bytes }

try_hears : (r : Reader) (s : State) (x : Try) → s.line.restarted ≡ true → s.line.next_incoming ≡ 1 → IsOldTry r s.ids x → HearsOldLogon r (heard_at r s x)
try_hears r s x restarted first old =
    record {
      awaits = record { up = refl; not_logged_on = refl; none_accepted = first };
      restarted = restarted;
      found = old.found;
      is_next = old.is_first;
      old = old.old;
    }

try_unmoved : (r : Reader) (s : State) (x : Try) → s.line.restarted ≡ true → s.line.next_incoming ≡ 1 → length s.entries < last_number → IsOldTry r s.ids x → IsUnmoved s (step r (heard_at r s x) x.moment).0
try_unmoved r s x restarted first few old =
    let one = (refused r (heard_at r s x) x.moment (try_hears r s x restarted first old) few).unmoved in
    record { ids = one.ids; restarted = one.restarted; next_incoming = one.next_incoming; past = one.past; entries = one.entries; ready = one.ready }

pub tries : (r : Reader) (h : History) (tries : List Try) → h.session.line.restarted ≡ true → h.session.line.next_incoming ≡ 1 → length h.session.entries < last_number → AreOldTries r h.session.ids tries
    → IsUnmoved h.session (run r (calls_of tries) h).session
tries r h [] restarted first few old = record { ids = refl; restarted = refl; next_incoming = refl; past = refl; entries = refl; ready = refl }
tries r h (x ∷ rest) restarted first few old =
    let here = happens r (happens r (happens r h (Resume x.moment)) (Push x.bytes)) (Step_at x.moment) in
    let one : IsUnmoved h.session here.session = try_unmoved r h.session x restarted first few old.0 in
    unmoved_then h.session here.session (run r (calls_of rest) here).session one
    (tries r here rest (one.restarted ∙ restarted) (one.next_incoming ∙ first) (subst (λ (es : List Entry). length es < last_number) (sym one.entries) few) (subst (λ (ids : CompIds). AreOldTries r ids rest) (sym one.ids) old.1))
