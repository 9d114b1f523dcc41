-- On each connection the line is offered a first part of what is queued there.
use Rattle.std.proofs.Common.{◌≡◌, ℕ, ◌+◌, List, [], ◌∷◌, ◌++◌, length, max, Bool, true, false, refl, ap, sym, ◌∙◌, append_assoc, append-nil, subst, drop}
use Rattle.std.specs.Prelude.{if◌then◌else◌, Option, Some, None}
use Rattle.fix_dictionary.specs.declared.messages.App.{App}
use Rattle.fix_dictionary.specs.declared.messages.Item.{Item}
use Rattle.fix_session.specs.Body.{frame_in, kind_in}
use Rattle.fix_session.specs.Machine as session
use Rattle.fix_session.specs.Reader.{Reader, settled}
use Rattle.fix_session.specs.Sent.{written, framed, app_message}
use Rattle.fix_session.specs.State.{State}
use Rattle.fix_session.specs.Table.{are_spent, are_numbers_spent}
use Rattle.fix_session.specs.Ticks.{timer_action}
use Rattle.fix_session.specs.declared.plan.AdminReplies.TheVariants.{One}
use Rattle.fix_session.specs.declared.plan.AdminReply.{AdminReply}
use Rattle.fix_session.specs.declared.session_state.TimerAction.{TimerAction}
use Rattle.fix_session.specs.declared.session_state.TimerAction.TheVariants as tick_asks
use Rattle.gateway.specs.declared.line.Accept.TheVariants as accept
use Rattle.gateway.specs.declared.piece.Given.TheVariants as gave
use Rattle.outbound_queue.specs.declared.outgoing.Outgoing.TheVariants.{Message, Cut}
use Rattle.gateway.specs.Thread.{ThreadState, Event, Accepts, Collects, Writes, Breaks_off, Reads, Keeps, Repeats, Steps, Hands, Ticks, moves, runs, hands}
use Rattle.gateway.specs.Offered.{Connection, Connections, AreFirstParts, AllFirstParts, IsFirstPart, closed, offers, queues, notes, noted}

-- bytes were queued behind these
abbrev Grows : List ℕ → List ℕ → Type 0
Grows before after = (more : List ℕ) × (after ≡ before ++ more)

grows_if : {A : Type 0} (f : A → List ℕ) (before : List ℕ) (b : Bool) (x y : A) → Grows before (f x) → Grows before (f y) → Grows before (f (if b then x else y))
grows_if f before true x y p q = p
grows_if f before false x y p q = q

same : (s : List ℕ) → Grows s s
same s = ([], sym (append-nil s))

step_grows : (r : Reader) (s : State) (t : ℕ) (found : Option (List ℕ × List ℕ)) → Grows s.wire (session.step_on r s t found).0.wire
step_grows r s t None = same s.wire
step_grows r s t (Some found) =
    let f = frame_in r s.ids found.0 in
    (written s.ids s.entries t (kind_in found.0) f.content (session.plan_for s f), refl)

abbrev wire_of : {A : Type 0} → State × A → List ℕ
wire_of out = out.0.wire

steps_grow : (r : Reader) (s : State) (t : ℕ) → Grows s.wire (session.step r s t).0.wire
steps_grow r s t = grows_if wire_of s.wire s.line.up _ _ (step_grows r s (max s.line.moment t) (r.front s.unread).found) (same s.wire)

sends_grow : (s : State) (t : ℕ) (message : AdminReply) (test_request_sent_at : Option ℕ) → Grows s.wire (session.sends_now s t message test_request_sent_at).0.wire
sends_grow s t message test_request_sent_at = grows_if wire_of s.wire (are_spent (length s.entries) (One message)) _ _ (same s.wire) (_, refl)

tick_grows : (s : State) (t : ℕ) (ask : TimerAction) → Grows s.wire (session.tick_by s t ask).0.wire
tick_grows s t tick_asks.Nothing = same s.wire
tick_grows s t tick_asks.Heartbeat = sends_grow s t _ _
tick_grows s t tick_asks.TestRequest = sends_grow s t _ _
tick_grows s t tick_asks.Silent = same s.wire

sent_grows : (s : State) (app : App) (t : ℕ) → Grows s.wire (session.sent s app t).wire
sent_grows s app t = grows_if (λ (xs : List ℕ). xs) s.wire s.line.logged_on _ _ (framed (app_message s.ids (length s.entries + 1) t app), refl) (same s.wire)

abbrev standing_wire : ThreadState → List ℕ
standing_wire s = s.session.wire

reply_grows : (r : Reader) (s : ThreadState) (app : App) (t : ℕ) → Grows s.session.wire (moves r s (Collects (Message app) t)).session.wire
reply_grows r s app t =
    grows_if standing_wire s.session.wire (are_numbers_spent s.session) _ _ (same s.session.wire) (sent_grows s.session app (max s.session.line.moment t))

pushed_same : (r : Reader) (s : State) (piece : List ℕ) → (session.pushed r s piece).wire ≡ s.wire
pushed_same r s piece = if_same s.line.up
  where
    if_same : (up : Bool) → (if up then record s { unread = settled r (s.unread ++ piece) } else s).wire ≡ s.wire
    if_same true = refl
    if_same false = refl

hands_same : (s : ThreadState) (ready : List Item) → (hands s ready).session.wire ≡ s.session.wire
hands_same s [] = refl
hands_same s (x ∷ rest) = refl

drop-front : (xs ys : List ℕ) → drop (length xs) (xs ++ ys) ≡ ys
drop-front [] ys = refl
drop-front (x ∷ xs) ys = drop-front xs ys

-- all of a list and one further
all-more : (xs : List Connection) (x : Connection) → AllFirstParts xs → IsFirstPart x → AllFirstParts (xs ++ x ∷ [])
all-more [] x all this = (this, tt)
all-more (y ∷ xs) x all this = (all.0, all-more xs x all.1 this)

ends : (c : Connections) (wire : List ℕ) → AreFirstParts c wire → AreFirstParts (closed c) []
ends c wire parts = record { over = all-more c.over c.now parts.over (wire, parts.now); now = refl }

offers_all : (c : Connections) (wire : List ℕ) → AreFirstParts c wire → AreFirstParts (offers c wire) []
offers_all c wire parts = record { over = parts.over; now = parts.now ∙ sym (append-nil (c.now.offered ++ wire)) }

queues_more : (c : Connections) (before after : List ℕ) → Grows before after → AreFirstParts c before → AreFirstParts (queues c before after) after
queues_more c before after grows parts =
    record {
      over = parts.over;
      now =
          ap (λ (xs : List ℕ). c.now.queued ++ xs) (ap (λ (ys : List ℕ). drop (length before) ys) grows.1 ∙ drop-front before grows.0)
          ∙ ap (λ (xs : List ℕ). xs ++ grows.0) parts.now
          ∙ append_assoc c.now.offered before grows.0
          ∙ ap (λ (xs : List ℕ). c.now.offered ++ xs) (sym grows.1);
    }

stays : (c : Connections) (before after : List ℕ) → after ≡ before → AreFirstParts c before → AreFirstParts c after
stays c before after is parts = subst (λ (wire : List ℕ). AreFirstParts c wire) (sym is) parts

event_notes : (r : Reader) (s : ThreadState) (e : Event) (c : Connections) → AreFirstParts c s.session.wire → AreFirstParts (notes r s e c) (moves r s e).session.wire
event_notes r s (Accepts accept.Up t) c parts = ends c s.session.wire parts
event_notes r s (Accepts accept.Quiet t) c parts = parts
event_notes r s (Accepts accept.Over t) c parts = parts
event_notes r s (Accepts accept.Fault t) c parts = ends c s.session.wire parts
event_notes r s (Collects (Message app) t) c parts = queues_more c s.session.wire _ (reply_grows r s app t) parts
event_notes r s (Collects Cut t) c parts = ends c s.session.wire parts
event_notes r s Writes c parts = offers_all c s.session.wire parts
event_notes r s Breaks_off c parts = ends (offers c s.session.wire) [] (offers_all c s.session.wire parts)
event_notes r s (Reads (gave.Got piece)) c parts = stays c s.session.wire _ (pushed_same r s.session piece) parts
event_notes r s (Reads gave.Quiet) c parts = parts
event_notes r s (Reads gave.Ended) c parts = ends c s.session.wire parts
event_notes r s (Reads gave.Fault) c parts = ends c s.session.wire parts
event_notes r s (Keeps piece) c parts = parts
event_notes r s (Repeats piece) c parts = stays c s.session.wire _ (pushed_same r s.session piece) parts
event_notes r s (Steps t) c parts = queues_more c s.session.wire _ (steps_grow r s.session t) parts
event_notes r s Hands c parts = stays c s.session.wire _ (hands_same s s.session.ready) parts
event_notes r s (Ticks t) c parts = queues_more c s.session.wire _ (tick_grows s.session (max s.session.line.moment t) (timer_action s.session.line (max s.session.line.moment t))) parts

pub offered : (r : Reader) (events : List Event) (s : ThreadState) (c : Connections) → AreFirstParts c s.session.wire → AreFirstParts (noted r events s c) (runs r events s).session.wire
offered r [] s c parts = parts
offered r (e ∷ events) s c parts = offered r events (moves r s e) (notes r s e c) (event_notes r s e c parts)
