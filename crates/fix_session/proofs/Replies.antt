-- The application messages among the entries are the replies that were sent.
use Rattle.std.proofs.Common.{◌≡◌, ℕ, List, [], ◌∷◌, ◌++◌, length, Bool, true, false, Option, Some, None, refl, sym, ap, ◌∙◌, cond, append_assoc, append-nil, max}
use Rattle.fix_dictionary.specs.declared.messages.App.{App}
use Rattle.fix_dictionary.specs.declared.messages.Item.{Item}
use Rattle.resend_store.specs.declared.entry.Entry.{Entry}
use Rattle.resend_store.specs.declared.entry.Entry.TheVariants as entry
use Rattle.fix_session.specs.declared.comp_ids.CompIds.{CompIds}
use Rattle.fix_session.specs.declared.plan.AdminReply.{AdminReply}
use Rattle.fix_session.specs.declared.plan.AdminReply.TheVariants as admin_reply
use Rattle.fix_session.specs.declared.plan.Step.{Step}
use Rattle.fix_session.specs.declared.plan.AdminReplies.{AdminReplies}
use Rattle.fix_session.specs.declared.plan.AdminReplies.TheVariants.{Nothing, One, Two, Unspent}
use Rattle.fix_session.specs.declared.session_state.TimerAction.{TimerAction}
use Rattle.fix_session.specs.declared.session_state.TimerAction.TheVariants as tick_asks
use Rattle.fix_session.specs.Reader.{Reader}
use Rattle.fix_session.specs.Sent.{apps_of, apps, apps_past, numbered_in, numbered, marks, past_after, entries_in}
use Rattle.fix_session.specs.Body.{frame_in}
use Rattle.fix_session.specs.State.{State}
use Rattle.fix_session.specs.Table.{are_spent, are_numbers_spent}
use Rattle.fix_session.specs.Ticks.{timer_action}
use Rattle.fix_session.specs.Machine.{step, step_on, tick, tick_by, sends_now, sent, pushed, plan_for}
use Rattle.fix_session.specs.Runs.{Event, Push, Step_at, Tick_at, Break, Resume, Send, Pop, Unpop, Take_wire, History, begin, happens, run, popped, reply_of, replies}
use Rattle.fix_session.proofs.Rows.{if_either}

apps-append : (xs ys : List Entry) → apps (xs ++ ys) ≡ apps xs ++ apps ys
apps-append [] ys = refl
apps-append (x ∷ xs) ys = rw (apps-append xs ys) (sym (append_assoc (apps_of x) (apps xs) (apps ys)))

session_entries : (es : List Entry) (admin_replies : AdminReplies) → apps (es ++ marks admin_replies) ≡ apps es
session_entries es Nothing = ap apps (append-nil es)
session_entries es (One a) = rw (apps-append es (entry.Session ∷ [])) (append-nil (apps es))
session_entries es (Two a b) = rw (apps-append es (entry.Session ∷ entry.Session ∷ [])) (append-nil (apps es))
session_entries es (Unspent a) = ap apps (append-nil es)

apps_past-append : (xs ys : List (List Entry)) → apps_past (xs ++ ys) ≡ apps_past xs ++ apps_past ys
apps_past-append [] ys = refl
apps_past-append (x ∷ xs) ys = rw (apps_past-append xs ys) (sym (append_assoc (apps x) (apps_past xs) (apps_past ys)))

era_entries : (begins : Bool) (past : List (List Entry)) (es : List Entry) (admin_replies : AdminReplies) →
    numbered_in (past_after begins past es) (entries_in begins es ++ marks admin_replies) ≡ numbered_in past es
era_entries false past es admin_replies = ap (λ (l : List App). apps_past past ++ l) (session_entries es admin_replies)
era_entries true past es admin_replies =
    ap (λ (l : List App). apps_past (past ++ es ∷ []) ++ l) (session_entries [] admin_replies)
    ∙ append-nil (apps_past (past ++ es ∷ []))
    ∙ apps_past-append past (es ∷ [])
    ∙ ap (λ (l : List App). apps_past past ++ l) (append-nil (apps es))

step_on_same : (r : Reader) (s : State) (t : ℕ) (found : Option (List ℕ × List ℕ)) → numbered (step_on r s t found).0 ≡ numbered s
step_on_same r s t None = refl
step_on_same r s t (Some found) = era_entries (plan_for s (frame_in r s.ids found.0)).begins s.past s.entries (plan_for s (frame_in r s.ids found.0)).admin_replies

pub step_same : (r : Reader) (s : State) (t : ℕ) → numbered (step r s t).0 ≡ numbered s
step_same r s t = if_either (λ (p : State × Step). numbered p.0 ≡ numbered s) s.line.up _ _ (step_on_same r s (max s.line.moment t) (r.front s.unread).found) refl

sends_now_same : (s : State) (t : ℕ) (message : AdminReply) (test_request_sent_at : Option ℕ) → numbered (sends_now s t message test_request_sent_at).0 ≡ numbered s
sends_now_same s t message test_request_sent_at =
    if_either (λ (p : State × Step). numbered p.0 ≡ numbered s) (are_spent (length s.entries) (One message)) _ _ refl (era_entries false s.past s.entries (One message))

tick_by_same : (s : State) (t : ℕ) (asked : TimerAction) → numbered (tick_by s t asked).0 ≡ numbered s
tick_by_same s t tick_asks.Nothing = refl
tick_by_same s t tick_asks.Heartbeat = sends_now_same s t admin_reply.Heartbeat s.line.test_request_sent_at
tick_by_same s t tick_asks.TestRequest = sends_now_same s t admin_reply.TestRequest (Some t)
tick_by_same s t tick_asks.Silent = refl

pub tick_same : (s : State) (t : ℕ) → numbered (tick s t).0 ≡ numbered s
tick_same s t = tick_by_same s (max s.line.moment t) (timer_action s.line (max s.line.moment t))

pub pushed_same : (r : Reader) (s : State) (piece : List ℕ) → numbered (pushed r s piece) ≡ numbered s
pushed_same r s piece = if_either (λ (new : State). numbered new ≡ numbered s) s.line.up _ _ refl refl

pub sent_more : (s : State) (app : App) (t : ℕ) → numbered (sent s app t) ≡ numbered s ++ app ∷ []
sent_more s app t =
    ap (λ (l : List App). apps_past s.past ++ l) (apps-append s.entries (entry.Application app t ∷ []))
    ∙ sym (append_assoc (apps_past s.past) (apps s.entries) (app ∷ []))

popped_same : (h : History) (ready : List Item) → numbered (popped h ready).session ≡ numbered h.session
popped_same h [] = refl
popped_same h (x ∷ rest) = refl

if_pair : (P : History → List App → Type 0) (b : Bool) (x y : History) (u v : List App) → P x u → P y v → P (cond b x y) (cond b u v)
if_pair P true x y u v p q = p
if_pair P false x y u v p q = q

event_replies : (r : Reader) (h : History) (e : Event) → numbered (happens r h e).session ≡ numbered h.session ++ reply_of h e
event_replies r h (Push piece) = rw (append-nil (numbered h.session)) (pushed_same r h.session piece)
event_replies r h (Step_at t) = rw (append-nil (numbered h.session)) (step_same r h.session t)
event_replies r h (Tick_at t) = rw (append-nil (numbered h.session)) (tick_same h.session t)
event_replies r h Break = sym (append-nil (numbered h.session))
event_replies r h (Resume t) = sym (append-nil (numbered h.session))
event_replies r h (Send app t) =
    if_pair (λ (new : History) (reply : List App). numbered new.session ≡ numbered h.session ++ reply) (are_numbers_spent h.session) _ _ _ _
    (sym (append-nil (numbered h.session))) (sent_more h.session app (max h.session.line.moment t))
event_replies r h Pop = rw (append-nil (numbered h.session)) (popped_same h h.session.ready)
event_replies r h Unpop = sym (append-nil (numbered h.session))
event_replies r h Take_wire = sym (append-nil (numbered h.session))

run_replies : (r : Reader) (h : History) (events : List Event) → numbered (run r events h).session ≡ numbered h.session ++ replies r h events
run_replies r h [] = sym (append-nil (numbered h.session))
run_replies r h (e ∷ events) =
    rw (run_replies r (happens r h e) events, event_replies r h e) (append_assoc (numbered h.session) (reply_of h e) (replies r (happens r h e) events))

pub replies_are : (r : Reader) (restarted : Bool) (ids : CompIds) (events : List Event) → numbered (run r events (begin restarted ids)).session ≡ replies r (begin restarted ids) events
replies_are r restarted ids events = run_replies r (begin restarted ids) events
