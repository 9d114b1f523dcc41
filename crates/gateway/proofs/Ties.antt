-- The run of a thread's events is a run of the session's calls.
use Rattle.std.proofs.Common.{◌≡◌, ℕ, List, [], ◌∷◌, ◌++◌, Bool, true, false, refl, ap, sym, ◌∙◌, cond, append_assoc, append-nil, subst}
use Rattle.fix_dictionary.specs.declared.messages.App.{App}
use Rattle.fix_dictionary.specs.declared.messages.Item.{Item}
use Rattle.fix_session.specs.declared.comp_ids.CompIds.{CompIds}
use Rattle.fix_session.specs.Reader.{Reader}
use Rattle.fix_session.specs.Heard.{Heard}
use Rattle.fix_session.specs.Chain.{accepted}
use Rattle.fix_session.specs.State.{State, begun}
use Rattle.fix_session.specs.Table.{are_numbers_spent}
use Rattle.fix_session.specs.Sent.{numbered}
use Rattle.fix_session.specs.Runs as session
use Rattle.gateway.specs.declared.line.Accept.TheVariants as accept
use Rattle.gateway.specs.declared.piece.Given.TheVariants as gave
use Rattle.outbound_queue.specs.declared.outgoing.Outgoing.{Outgoing}
use Rattle.outbound_queue.specs.declared.outgoing.Outgoing.TheVariants.{Message, Cut}
use Rattle.gateway.specs.Thread.{ThreadState, Event, Accepts, Collects, Writes, Breaks_off, Reads, Keeps, Repeats, Steps, Hands, Ticks, moves, runs, hands}
use Rattle.gateway.specs.Calls.{calls, calls_of, heard_of, without_cuts}

-- the session's laws with a reader
abbrev pub TakenThenReady : Reader → Type 0
TakenThenReady r = (restarted : Bool) (ids : CompIds) (calls : List session.Event) →
    (session.run r calls (session.begin restarted ids)).taken ++ (session.run r calls (session.begin restarted ids)).session.ready ≡ accepted (session.run r calls (session.begin restarted ids)).heard

abbrev pub RepliesInOrder : Reader → Type 0
RepliesInOrder r = (restarted : Bool) (ids : CompIds) (calls : List session.Event) →
    numbered (session.run r calls (session.begin restarted ids)).session ≡ session.replies r (session.begin restarted ids) calls

run-append : (r : Reader) (xs ys : List session.Event) (h : session.History) → session.run r (xs ++ ys) h ≡ session.run r ys (session.run r xs h)
run-append r [] ys h = refl
run-append r (e ∷ xs) ys h = run-append r xs ys (session.happens r h e)

-- a run of the session's calls, from where these replies had been collected, leads to this thread
record Tied (s : ThreadState) (h : session.History) : Type 0 where
  session_is : h.session ≡ s.session
  given_is : h.taken ≡ s.given

if_both : {A B : Type 0} (P : A → B → Type 0) (b : Bool) (x y : A) (u v : B) → P x u → P y v → P (cond b x y) (cond b u v)
if_both P true x y u v p q = p
if_both P false x y u v p q = q

abbrev history : ThreadState → List Heard → List ℕ → List (List ℕ) → session.History
history s heard stream bodies = record { session = s.session; heard = heard; taken = s.given; stream = stream; bodies = bodies }

hand_ties : (s : ThreadState) (heard : List Heard) (stream : List ℕ) (bodies : List (List ℕ)) (ready : List Item) → Tied (hands s ready) (session.popped (history s heard stream bodies) ready)
hand_ties s heard stream bodies [] = record { session_is = refl; given_is = refl }
hand_ties s heard stream bodies (x ∷ rest) = record { session_is = refl; given_is = refl }

event_from : (r : Reader) (s : ThreadState) (heard : List Heard) (stream : List ℕ) (bodies : List (List ℕ)) (e : Event) → Tied (moves r s e) (session.run r (calls e) (history s heard stream bodies))
event_from r s heard stream bodies (Accepts accept.Up t) = record { session_is = refl; given_is = refl }
event_from r s heard stream bodies (Accepts accept.Quiet t) = record { session_is = refl; given_is = refl }
event_from r s heard stream bodies (Accepts accept.Over t) = record { session_is = refl; given_is = refl }
event_from r s heard stream bodies (Accepts accept.Fault t) = record { session_is = refl; given_is = refl }
event_from r s heard stream bodies (Collects (Message app) t) =
    if_both Tied (are_numbers_spent s.session) _ _ _ _ (record { session_is = refl; given_is = refl }) (record { session_is = refl; given_is = refl })
event_from r s heard stream bodies (Collects Cut t) = record { session_is = refl; given_is = refl }
event_from r s heard stream bodies Writes = record { session_is = refl; given_is = refl }
event_from r s heard stream bodies Breaks_off = record { session_is = refl; given_is = refl }
event_from r s heard stream bodies (Reads (gave.Got piece)) = record { session_is = refl; given_is = refl }
event_from r s heard stream bodies (Reads gave.Quiet) = record { session_is = refl; given_is = refl }
event_from r s heard stream bodies (Reads gave.Ended) = record { session_is = refl; given_is = refl }
event_from r s heard stream bodies (Reads gave.Fault) = record { session_is = refl; given_is = refl }
event_from r s heard stream bodies (Keeps piece) = record { session_is = refl; given_is = refl }
event_from r s heard stream bodies (Repeats piece) = record { session_is = refl; given_is = refl }
event_from r s heard stream bodies (Steps t) = record { session_is = refl; given_is = refl }
event_from r s heard stream bodies Hands = hand_ties s heard stream bodies s.session.ready
event_from r s heard stream bodies (Ticks t) = record { session_is = refl; given_is = refl }

history_is : (s : ThreadState) (h : session.History) → Tied s h → history s h.heard h.stream h.bodies ≡ h
history_is s h tied = rw (← tied.session_is, ← tied.given_is) refl

event_ties : (r : Reader) (s : ThreadState) (h : session.History) (e : Event) → Tied s h → Tied (moves r s e) (session.run r (calls e) h)
event_ties r s h e tied = subst (λ (k : session.History). Tied (moves r s e) (session.run r (calls e) k)) (history_is s h tied) (event_from r s h.heard h.stream h.bodies e)

run_ties : (r : Reader) (s : ThreadState) (h : session.History) (events : List Event) → Tied s h → Tied (runs r events s) (session.run r (calls_of events) h)
run_ties r s h [] tied = tied
run_ties r s h (e ∷ events) tied =
    rw (run-append r (calls e) (calls_of events) h) (run_ties r (moves r s e) (session.run r (calls e) h) events (event_ties r s h e tied))

-- from the session's law, the thread's: the messages given, then those ready, are what the heard frames spell
pub given_then_ready : (r : Reader) → TakenThenReady r →
    (events : List Event) (s : ThreadState) → s.session ≡ begun s.session.line.restarted s.session.ids → s.given ≡ [] → (runs r events s).given ++ (runs r events s).session.ready ≡ accepted (heard_of r s.session events)
given_then_ready r law events s new none =
    let ids : CompIds = s.session.ids in
    let restarted : Bool = s.session.line.restarted in
    let tied = run_ties r s (session.begin restarted ids) events (record { session_is = sym new; given_is = sym none }) in
    rw (← tied.given_is, ← tied.session_is) (law restarted ids (calls_of events))

-- Replies

pub without_cuts-append : (xs ys : List Outgoing) → without_cuts (xs ++ ys) ≡ without_cuts xs ++ without_cuts ys
without_cuts-append [] ys = refl
without_cuts-append (Message app ∷ xs) ys = ap (λ (replies : List App). app ∷ replies) (without_cuts-append xs ys)
without_cuts-append (Cut ∷ xs) ys = without_cuts-append xs ys

none_sent : (s : ThreadState) → without_cuts s.collected ≡ without_cuts s.collected ++ []
none_sent s = sym (append-nil (without_cuts s.collected))

hands_collected : (s : ThreadState) (ready : List Item) → without_cuts (hands s ready).collected ≡ without_cuts s.collected ++ []
hands_collected s [] = none_sent s
hands_collected s (x ∷ rest) = none_sent s

event_replies : (r : Reader) (s : ThreadState) (heard : List Heard) (stream : List ℕ) (bodies : List (List ℕ)) (e : Event) →
    without_cuts (moves r s e).collected ≡ without_cuts s.collected ++ session.replies r (history s heard stream bodies) (calls e)
event_replies r s heard stream bodies (Accepts accept.Up t) = none_sent s
event_replies r s heard stream bodies (Accepts accept.Quiet t) = none_sent s
event_replies r s heard stream bodies (Accepts accept.Over t) = none_sent s
event_replies r s heard stream bodies (Accepts accept.Fault t) = none_sent s
event_replies r s heard stream bodies (Collects (Message app) t) =
    if_both (λ (new : ThreadState) (reply : List App). without_cuts new.collected ≡ without_cuts s.collected ++ (reply ++ [])) (are_numbers_spent s.session) _ _ _ _
    (none_sent s) (without_cuts-append s.collected (Message app ∷ []))
event_replies r s heard stream bodies (Collects Cut t) = without_cuts-append s.collected (Cut ∷ [])
event_replies r s heard stream bodies Writes = none_sent s
event_replies r s heard stream bodies Breaks_off = none_sent s
event_replies r s heard stream bodies (Reads (gave.Got piece)) = none_sent s
event_replies r s heard stream bodies (Reads gave.Quiet) = none_sent s
event_replies r s heard stream bodies (Reads gave.Ended) = none_sent s
event_replies r s heard stream bodies (Reads gave.Fault) = none_sent s
event_replies r s heard stream bodies (Keeps piece) = none_sent s
event_replies r s heard stream bodies (Repeats piece) = none_sent s
event_replies r s heard stream bodies (Steps t) = none_sent s
event_replies r s heard stream bodies Hands = hands_collected s s.session.ready
event_replies r s heard stream bodies (Ticks t) = none_sent s

replies-append : (r : Reader) (xs ys : List session.Event) (h : session.History) → session.replies r h (xs ++ ys) ≡ session.replies r h xs ++ session.replies r (session.run r xs h) ys
replies-append r [] ys h = refl
replies-append r (e ∷ xs) ys h =
    ap (λ (replies : List App). session.reply_of h e ++ replies) (replies-append r xs ys (session.happens r h e))
    ∙ sym (append_assoc (session.reply_of h e) (session.replies r (session.happens r h e) xs) (session.replies r (session.run r xs (session.happens r h e)) ys))

one_replies : (r : Reader) (s : ThreadState) (h : session.History) (e : Event) → Tied s h → without_cuts (moves r s e).collected ≡ without_cuts s.collected ++ session.replies r h (calls e)
one_replies r s h e tied =
    subst (λ (k : session.History). without_cuts (moves r s e).collected ≡ without_cuts s.collected ++ session.replies r k (calls e)) (history_is s h tied) (event_replies r s h.heard h.stream h.bodies e)

run_replies : (r : Reader) (s : ThreadState) (h : session.History) (events : List Event) → Tied s h →
    without_cuts (runs r events s).collected ≡ without_cuts s.collected ++ session.replies r h (calls_of events)
run_replies r s h [] tied = none_sent s
run_replies r s h (e ∷ events) tied =
    run_replies r (moves r s e) (session.run r (calls e) h) events (event_ties r s h e tied)
    ∙ ap (λ (replies : List App). replies ++ session.replies r (session.run r (calls e) h) (calls_of events)) (one_replies r s h e tied)
    ∙ append_assoc (without_cuts s.collected) (session.replies r h (calls e)) (session.replies r (session.run r (calls e) h) (calls_of events))
    ∙ ap (λ (replies : List App). without_cuts s.collected ++ replies) (sym (replies-append r (calls e) (calls_of events) h))

-- from the session's law, the thread's: the replies numbered for the counterparty are those collected, in order, the
-- sentinel aside
pub numbered_is_collected : (r : Reader) → RepliesInOrder r →
    (events : List Event) (s : ThreadState) → s.session ≡ begun s.session.line.restarted s.session.ids → s.given ≡ [] → s.collected ≡ [] →
    numbered (runs r events s).session ≡ without_cuts (runs r events s).collected
numbered_is_collected r law events s new none nothing =
    let ids : CompIds = s.session.ids in
    let restarted : Bool = s.session.line.restarted in
    let first : Tied s (session.begin restarted ids) = record { session_is = sym new; given_is = sym none } in
    let tied = run_ties r s (session.begin restarted ids) events first in
    let sent : without_cuts (runs r events s).collected ≡ session.replies r (session.begin restarted ids) (calls_of events) =
    run_replies r s (session.begin restarted ids) events first ∙ ap (λ (xs : List Outgoing). without_cuts xs ++ session.replies r (session.begin restarted ids) (calls_of events)) nothing in
    ap (λ (k : State). numbered k) (sym tied.session_is) ∙ law restarted ids (calls_of events) ∙ sym sent
