-- The effect of each event on the first participant's side.
use Rattle.std.proofs.Common.{◌≡◌, ◌≤◌, ◌<◌, ◌-◌, ◌⊎◌, ℕ, suc, zero, List, [], ◌∷◌, ◌++◌, length, max, Bool, true, false, if◌then◌else◌, Option, Some, None, refl, sym, ap, ◌∙◌, subst, inl, slice_get, arith}
use Rattle.fix_dictionary.specs.declared.messages.App.{App}
use Rattle.fix_dictionary.specs.declared.messages.Item.{Item}
use Rattle.fix_session.specs.Machine.{AtEnd, sent, step}
use Rattle.fix_session.specs.Reader.{Reader, settled}
use Rattle.fix_session.specs.Shorter.{Shortens}
use Rattle.fix_session.specs.State.{State}
use Rattle.fix_session.specs.Table.{are_numbers_spent}
use Rattle.fix_session.specs.declared.plan.Step.{Step}
use Rattle.fix_session.specs.declared.plan.Step.TheVariants.{Idle, Did, App as Ready, Dropped}
use Rattle.venue_rules.specs.declared.replies.Reply.{Reply}
use Rattle.venue_rules.specs.Messages.{message}
use Rattle.venue_world.specs.declared.world_event.WorldEvent.TheVariants.{Alone, Takes}
use Rattle.venue_world.specs.declared.world_event.SessionEvent.{SessionEvent}
use Rattle.venue_world.specs.declared.world_event.SessionEvent.TheVariants.{Pieces, Steps, Hands, Delivers, Collects, Writes}
use Rattle.outbound_queue.specs.declared.outgoing.Outgoing.{Outgoing}
use Rattle.outbound_queue.specs.declared.outgoing.Outgoing.TheVariants.{Message, Cut}
use Rattle.venue_world.specs.Seen.{Done, Seen, Shows}
use Rattle.venue_world.specs.Side.{Side, collected, delivered, does, handed, wire_taken}
use Rattle.venue_world.specs.World.{WorldState, answered, at, behind, down, emptied, first_behind, is_due, message_from, posted, refusal_at, replies_after, seat_at, take_refused, takes, emitted, unless_behind}
use Rattle.once_session.specs.Acts.{IsAnswered, IsHeardOut, MayCome, OfFirst}
use Rattle.std.proofs.lemmas.List.{nil_from_length}
use Rattle.venue_world.specs.Headline.{given_by, wire_of}
use Rattle.once_session.specs.Course.{IsAllHeard, waiting, unread, Answers, Ends, IsEmptied, IsFree, IsHeard, IsKept, IsSent, IsSomewhere, OfBoth, Replies, RepliesOnce, Shortened, Takes as TakesReady}
use Rattle.once_session.proofs.First.{both-at, both-same, both-then, of-at, of-so}
use Rattle.once_session.proofs.Stepping.{one_more_ready}

-- An act of its own.

pub alone-sides : (r : Reader) (x : SessionEvent) (old new : Seen) → IsSomewhere old → Done r (Alone 0 x) old new → new.sides ≡ at 0 (does r x) old.sides
alone-sides r x old new place done = (done place.0 place.1).shows.sides ∙ ap (at 0 (does r x)) (sym place.1.sides)

pub alone-allowed : (r : Reader) (x : SessionEvent) (old new : Seen) → IsSomewhere old → Done r (Alone 0 x) old new → refusal_at 0 x (slice_get old.sides 0) ≡ None
alone-allowed r x old new place done = ap (λ (l : List Side). refusal_at 0 x (slice_get l 0)) place.1.sides ∙ (done place.0 place.1).allowed

kept-same : (s s' : Side) → s'.session.unread ≡ s.session.unread → s'.session.line.up ≡ s.session.line.up → IsKept s s'
kept-same s s' unread up = record {
  unread = omega (arith, ap (λ (l : List ℕ). length l) unread);
  heard = λ r heard. subst (λ (b : Bool). (b ≡ false) ⊎ ((r.front s'.session.unread).found ≡ None)) (sym up)
      (subst (λ (l : List ℕ). (s.session.line.up ≡ false) ⊎ ((r.front l).found ≡ None)) (sym unread) heard);
}

pub kept-then : (a b c : Side) → IsKept a b → IsKept b c → IsKept a c
kept-then a b c p q = record { unread = omega (arith, p.unread, q.unread); heard = λ r heard. q.heard r (p.heard r heard) }

-- A message is handed.

pub record Handed (s s' : Side) : Type 0 where
  pub none_ready : s'.session.ready ≡ []
  pub same_reply : s'.reply ≡ s.reply
  pub kept : IsKept s s'

handed_is : (s : Side) (seat : Option Item) (ready : List Item) → seat ≡ None → length ready ≤ 1 → s.session.ready ≡ ready → Handed s (handed s seat ready)
handed_is s (Some x) ready e few is = cc
handed_is s None [] e few is = record { none_ready = is; same_reply = refl; kept = kept-same s s refl refl }
handed_is s None (x ∷ []) e few is = record { none_ready = refl; same_reply = refl; kept = kept-same s (handed s None (x ∷ [])) refl refl }
handed_is s None (x ∷ y ∷ rest) e few is = absurd (omega (arith, few))

pub hands-first : (r : Reader) (old new : List Side) → new ≡ at 0 (does r Hands) old → OfFirst IsHeard old → OfBoth (λ s s'. IsHeard s × Handed s s') old new
hands-first r old new is heard = both-at IsHeard (λ s s'. IsHeard s × Handed s s') (does r Hands) old new is heard (λ s h. (h, handed_is s s.seat s.session.ready h.none_in_seat h.one_ready refl))

-- The venue takes it.

pub record Took (s s' : Side) : Type 0 where
  pub none_in_seat : s'.seat ≡ None
  pub same_session : s'.session ≡ s.session
  pub same_reply : s'.reply ≡ s.reply

record Same (s s' : Side) : Type 0 where
  pub same_seat : s'.seat ≡ s.seat
  pub same_session : s'.session ≡ s.session
  pub same_reply : s'.reply ≡ s.reply

emitted-first : (a b : List Side) (n : ℕ) (app : App) → OfBoth Same a b → OfBoth Same a (at n (emitted app) b)
emitted-first [] b n app h = absurd h
emitted-first (s ∷ a) [] n app h = absurd h
emitted-first (s ∷ a) (s' ∷ b) zero app h = record { same_seat = h.same_seat; same_session = h.same_session; same_reply = h.same_reply }
emitted-first (s ∷ a) (s' ∷ b) (suc k) app h = h

posted-first : (rs : List Reply) (a b : List Side) → OfBoth Same a b → OfBoth Same a (posted rs b)
posted-first [] a b h = h
posted-first (x ∷ rs) a b h = posted-first rs a (at x.to (emitted (message x.what)) b) (emitted-first a b x.to (message x.what) h)

seat-first : (P : Side → Type 0) (a : List Side) → OfFirst P a → None ≡ seat_at 0 a → OfFirst (λ s. s.seat ≡ None) a
seat-first P [] p e = absurd p
seat-first P (s ∷ a) p e = sym e

took-posted : (P : Side → Type 0) (rs : List Reply) (a : List Side) → OfFirst P a → OfBoth Took a (posted rs (at 0 emptied a))
took-posted P rs a p =
    both-then (λ s s'. s' ≡ emptied s) Same Took a (at 0 emptied a) (posted rs (at 0 emptied a))
    (both-at P (λ s s'. s' ≡ emptied s) emptied a (at 0 emptied a) refl p (λ s q. refl))
    (posted-first rs (at 0 emptied a) (at 0 emptied a) (both-same (λ s. s.seat ≡ None) Same (at 0 emptied a) (of-at P (λ s. s.seat ≡ None) emptied a (at 0 emptied a) refl p (λ s q. refl)) (λ s q. record { same_seat = refl; same_session = refl; same_reply = refl })))
    (λ s s' s'' is same. record {
      none_in_seat = same.same_seat ∙ ap (λ (x : Side). x.seat) is;
      same_session = same.same_session ∙ ap (λ (x : Side). x.session) is;
      same_reply = same.same_reply ∙ ap (λ (x : Side). x.reply) is;
    })

unless_first : (w w' : WorldState) (fb : Option ℕ) → behind fb ≡ None → OfBoth Took w.sides w'.sides → OfBoth Took w.sides (unless_behind fb w' w).sides
unless_first w w' None e took = took
unless_first w w' (Some j) e took = cc

takes_first : (P : Side → Type 0) (w : WorldState) (t : ℕ) (due : Bool) (seat : Option Item) → OfFirst P w.sides → seat ≡ seat_at 0 w.sides → take_refused w 0 t due seat ≡ None → OfBoth Took w.sides (takes w 0 t due seat).sides
takes_first P w t true seat p is allowed = cc
takes_first P w t false None p is allowed =
    both-same (λ s. s.seat ≡ None) Took w.sides (seat-first P w.sides p is) (λ s none. record { none_in_seat = none; same_session = refl; same_reply = refl })
takes_first P w t false (Some item) p is allowed =
    let replies = replies_after w.market w.items (message_from 0 item t) in
    unless_first w (answered w (message_from 0 item t) t (at 0 emptied w.sides)) (first_behind 0 replies w.sides) allowed (took-posted P replies w.sides p)

pub take-first : (P : Side → Type 0) (r : Reader) (t : ℕ) (old new : Seen) → IsSomewhere old → Done r (Takes 0 t) old new → OfFirst P old.sides → OfBoth Took old.sides new.sides
take-first P r t old new place done p =
    let w = place.0 in
    let at_t : ℕ = max w.moment t in
    let d = done w place.1 in
    subst (λ (l : List Side). OfBoth Took l new.sides) (sym place.1.sides)
    (subst (OfBoth Took w.sides) (sym d.shows.sides)
    (takes_first P w at_t (is_due w.market w.items at_t) (seat_at 0 w.sides) (subst (OfFirst P) place.1.sides p) refl d.allowed))

-- both: the ready message is taken
pub taken-first : (old mid new : List Side) → OfBoth (λ s s'. IsHeard s × Handed s s') old mid → OfBoth Took mid new → OfBoth TakesReady old new
taken-first old mid new hands took =
    both-then (λ s s'. IsHeard s × Handed s s') Took TakesReady old mid new hands took
    (λ s s' s'' h k. record {
      taken = record {
        none_ready = ap (λ (x : State). x.ready) k.same_session ∙ h.1.none_ready;
        none_in_seat = k.none_in_seat;
        no_reply = k.same_reply ∙ h.1.same_reply ∙ h.0.no_reply;
      };
      kept = kept-then s s' s'' h.1.kept (kept-same s' s'' (ap (λ (x : State). x.unread) k.same_session) (ap (λ (x : State). x.line.up) k.same_session));
    })

-- A reply is delivered,

pub record Delivered (s s' : Side) : Type 0 where
  pub same_session : s'.session ≡ s.session
  pub same_seat : s'.seat ≡ s.seat
  pub fewer : length s'.queue ≡ length s.queue - 1

delivered_is : (s : Side) (reply : Option Outgoing) (queue : List Outgoing) → reply ≡ None → s.queue ≡ queue → Delivered s (delivered s reply queue)
delivered_is s (Some x) queue e is = cc
delivered_is s None [] e is = record { same_session = refl; same_seat = refl; fewer = omega (arith, ap (λ (l : List Outgoing). length l) is) }
delivered_is s None (x ∷ rest) e is = record { same_session = refl; same_seat = refl; fewer = omega (arith, ap (λ (l : List Outgoing). length l) is) }

pub delivers-first : (r : Reader) (old new : List Side) → new ≡ at 0 (does r Delivers) old → OfFirst IsFree old → OfBoth Delivered old new
delivers-first r old new is free = both-at IsFree Delivered (does r Delivers) old new is free (λ s none. delivered_is s s.reply s.queue none refl)

-- and sent.

pub record Collected (s s' : Side) : Type 0 where
  pub replies : Replies s s'
  pub same_queue : s'.queue ≡ s.queue

message_collected : (s : Side) (t : ℕ) (app : App) (spent : Bool) → down 0 (Some (Message app)) spent ≡ None
    → Collected s (if spent then s else record s { session = sent s.session app (max s.session.line.moment t); moment = t; reply = None })
message_collected s t app true e = cc
message_collected s t app false e =
    let s' = record s { session = sent s.session app (max s.session.line.moment t); moment = t; reply = None } in
    record { replies = record { kept = kept-same s s' refl refl; ready = refl; seat = refl; free = refl }; same_queue = refl }

collected_is : (s : Side) (t : ℕ) (reply : Option Outgoing) → s.reply ≡ reply → down 0 reply (are_numbers_spent s.session) ≡ None → Collected s (collected s t reply)
collected_is s t None is allowed = record { replies = record { kept = kept-same s (record s { moment = t }) refl refl; ready = refl; seat = refl; free = is }; same_queue = refl }
collected_is s t (Some (Message app)) is allowed = message_collected s t app (are_numbers_spent s.session) allowed
collected_is s t (Some Cut) is allowed = record {
  replies = record { kept = record { unread = omega arith; heard = λ r heard. inl refl }; ready = refl; seat = refl; free = refl };
  same_queue = refl;
}

pub collects-first : (P : Side → Type 0) (r : Reader) (t : ℕ) (old new : List Side) → new ≡ at 0 (does r (Collects t)) old → refusal_at 0 (Collects t) (slice_get old 0) ≡ None → OfFirst P old → OfBoth Collected old new
collects-first P r t [] new is allowed p = absurd p
collects-first P r t (s ∷ old) new is allowed p = subst (OfBoth Collected (s ∷ old)) (sym is) (collected_is s (max s.moment t) s.reply refl allowed)

pub replied-first : (old mid new : List Side) → OfBoth Delivered old mid → OfBoth Collected mid new → OfBoth RepliesOnce old new
replied-first old mid new d c =
    both-then Delivered Collected RepliesOnce old mid new d c
    (λ s s' s'' p q. record {
      replies = record {
        kept = kept-then s s' s'' (kept-same s s' (ap (λ (x : State). x.unread) p.same_session) (ap (λ (x : State). x.line.up) p.same_session)) q.replies.kept;
        ready = q.replies.ready ∙ ap (λ (x : State). x.ready) p.same_session;
        seat = q.replies.seat ∙ p.same_seat;
        free = q.replies.free;
      };
      fewer = ap (λ (l : List Outgoing). length l) q.same_queue ∙ p.fewer;
    })

pub replies-then : (a b c : Side) → Replies a b → Replies b c → Replies a c
replies-then a b c p q = record { kept = kept-then a b c p.kept q.kept; ready = q.ready ∙ p.ready; seat = q.seat ∙ p.seat; free = q.free }

pub replies-none : (s : Side) → IsFree s → Replies s s
replies-none s free = record { kept = kept-same s s refl refl; ready = refl; seat = refl; free = free }

-- What is queued is written.

pub answered_is : (s : Side) → IsSent s → IsAnswered (wire_taken s)
answered_is s sent = record {
  none_ready = sent.taken.none_ready;
  none_in_seat = sent.taken.none_in_seat;
  none_queued = sent.none_queued;
  no_reply = sent.taken.no_reply;
  all_written = refl;
}

pub written_kept : (s : Side) → IsKept s (wire_taken s)
written_kept s = kept-same s (wire_taken s) refl refl

-- Bytes arrive.

record Unpushed (s s' : State) : Type 0 where
  pub ready : s'.ready ≡ s.ready
  pub wire : s'.wire ≡ s.wire

pushed_if : (up : Bool) (s : State) (unread : List ℕ) → Unpushed s (if up then record s { unread = unread } else s)
pushed_if true s unread = record { ready = refl; wire = refl }
pushed_if false s unread = record { ready = refl; wire = refl }

pub piece-first : (r : Reader) (bytes : List ℕ) (old new : List Side) → new ≡ at 0 (does r (Pieces bytes)) old → OfFirst IsAnswered old → OfFirst IsAnswered new
piece-first r bytes old new is answered =
    of-at IsAnswered IsAnswered (does r (Pieces bytes)) old new is answered
    (λ s a. let kept = pushed_if s.session.line.up s.session (settled r (s.session.unread ++ bytes)) in
    record { none_ready = kept.ready ∙ a.none_ready; none_in_seat = a.none_in_seat; none_queued = a.none_queued; no_reply = a.no_reply; all_written = kept.wire ∙ a.all_written })

-- A frame is processed.

pub record Stepped (answer : Step) (s s' : Side) : Type 0 where
  pub heard : IsHeard s'
  pub shorter : Shortened answer s s'
  pub ends : Ends answer s'

abbrev first_or : Side → List Side → Side
first_or x [] = x
first_or x (s ∷ sides) = s

first_is : (f : Side → Side) (s s' : Side) (a b : List Side) → s' ∷ b ≡ at 0 f (s ∷ a) → s' ≡ f s
first_is f s s' a b is = ap (first_or s) is

stepped_is : Reader → (t : ℕ) (answer : Step) (s s' : Side)
    → ((r : Reader) (x : State) (u : ℕ) → Shortens (step r x u).1 (length x.unread) (length (step r x u).0.unread))
    → ((r : Reader) (x : State) (u : ℕ) → AtEnd r (step r x u).0 (step r x u).1)
    → IsAnswered s → ((r : Reader) → s' ≡ does r (Steps t) s) → ((r : Reader) → answer ≡ (step r s.session (max s.moment t)).1) → Stepped answer s s'
stepped_is r0 t answer s s' shorten end a is says =
    let u : ℕ = max s.moment t in
    let one = one_more_ready r0 s.session u in
    let ready = ap (λ (x : Side). length x.session.ready) (is r0) in
    let none = ap (λ (l : List Item). length l) a.none_ready in
    record {
      heard = record {
        one_ready = omega (arith, one, ready, none);
        none_in_seat = ap (λ (x : Side). x.seat) (is r0) ∙ a.none_in_seat;
        none_queued = ap (λ (x : Side). x.queue) (is r0) ∙ a.none_queued;
        no_reply = ap (λ (x : Side). x.reply) (is r0) ∙ a.no_reply;
      };
      shorter =
          subst (λ (l : List ℕ). Shortens answer (length s.session.unread) (length l)) (sym (ap (λ (x : Side). x.session.unread) (is r0)))
          (subst (λ (x : Step). Shortens x (length s.session.unread) (length (step r0 s.session u).0.unread)) (sym (says r0)) (shorten r0 s.session u));
      ends = λ r.
          subst (λ (x : State). AtEnd r x answer) (sym (ap (λ (x : Side). x.session) (is r)))
          (subst (λ (x : Step). AtEnd r (step r s.session u).0 x) (sym (says r)) (end r s.session u));
    }

pub step-first : Reader → (t : ℕ) (answer : Step) (old new : List Side)
    → ((r : Reader) (x : State) (u : ℕ) → Shortens (step r x u).1 (length x.unread) (length (step r x u).0.unread))
    → ((r : Reader) (x : State) (u : ℕ) → AtEnd r (step r x u).0 (step r x u).1)
    → OfFirst IsAnswered old → ((r : Reader) → new ≡ at 0 (does r (Steps t)) old)
    → ((r : Reader) (s : Side) → slice_get old 0 ≡ Some s → answer ≡ (step r s.session (max s.moment t)).1) → OfBoth (Stepped answer) old new
step-first r0 t answer [] new shorten end a is says = absurd a
step-first r0 t answer (s ∷ old) [] shorten end a is says = let no_side = is r0 in cc
step-first r0 t answer (s ∷ old) (s' ∷ new) shorten end a is says =
    stepped_is r0 t answer s s' shorten end a (λ r. first_is (does r (Steps t)) s s' old new (is r)) (λ r. says r s refl)

shortens_more : (answer : Step) (before mid after : ℕ) → Shortens answer before mid → after ≤ mid → Shortens answer before after
shortens_more Idle before mid after p q = omega (arith, p, q)
shortens_more Did before mid after p q = omega (arith, p, q)
shortens_more (Ready n) before mid after p q = omega (arith, p, q)
shortens_more (Dropped why) before mid after p q = omega (arith, p, q)

ends_kept : (answer : Step) (s s' : Side) → IsKept s s' → Ends answer s → Ends answer s'
ends_kept Idle s s' kept e = λ r. kept.heard r (e r)
ends_kept Did s s' kept e = λ r. tt
ends_kept (Ready n) s s' kept e = λ r. tt
ends_kept (Dropped why) s s' kept e = λ r. tt

-- one frame, from its step to the write
pub frame-first : (answer : Step) (old heard taken sent new : List Side) → OfBoth (Stepped answer) old heard
    → OfBoth TakesReady heard taken → OfBoth Replies taken sent → OfFirst IsEmptied sent → new ≡ at 0 wire_taken sent
    → OfBoth (Answers answer) old new
frame-first answer [] heard taken sent new p q x y z = absurd p
frame-first answer (a ∷ old) [] taken sent new p q x y z = absurd p
frame-first answer (a ∷ old) (b ∷ heard) [] sent new p q x y z = absurd q
frame-first answer (a ∷ old) (b ∷ heard) (c ∷ taken) [] new p q x y z = absurd x
frame-first answer (a ∷ old) (b ∷ heard) (c ∷ taken) (d ∷ sent) new p q x y z =
    let all_sent : IsSent d = record { taken = record { none_ready = x.ready ∙ q.taken.none_ready; none_in_seat = x.seat ∙ q.taken.none_in_seat; no_reply = x.free }; none_queued = y } in
    let kept : IsKept b (wire_taken d) = kept-then b c (wire_taken d) q.kept (kept-then c d (wire_taken d) x.kept (written_kept d)) in
    subst (OfBoth (Answers answer) (a ∷ old)) (sym z)
    (record {
      answered = answered_is d all_sent;
      shorter = shortens_more answer _ _ _ p.shorter kept.unread;
      ends = ends_kept answer b (wire_taken d) kept p.ends;
    })

pub shorter_unless : (answer : Step) (before after : ℕ) → (answer ≡ Idle → ⊥) → Shortens answer before after → after < before
shorter_unless Idle before after some h = absurd (some refl)
shorter_unless Did before after some h = h
shorter_unless (Ready n) before after some h = h
shorter_unless (Dropped reason) before after some h = h

-- The participant is the first.

pub alone-first : (who : ℕ) (x : SessionEvent) (old new : Seen) → who ≡ 0 → ((r : Reader) → Done r (Alone who x) old new) → (r : Reader) → Done r (Alone 0 x) old new
alone-first who x old new is done r = subst (λ (n : ℕ). Done r (Alone n x) old new) is (done r)

pub takes-of-first : (who t : ℕ) (old new : Seen) → who ≡ 0 → ((r : Reader) → Done r (Takes who t) old new) → (r : Reader) → Done r (Takes 0 t) old new
takes-of-first who t old new is done r = subst (λ (n : ℕ). Done r (Takes n t) old new) is (done r)

-- The bytes given are those that were on the wire.

pub wire-first : (bytes : List ℕ) (sides : List Side) → 0 < length sides → ((s : Side) → slice_get sides 0 ≡ Some s → bytes ≡ s.session.wire) → wire_of (slice_get sides 0) ≡ bytes
wire-first bytes [] some is = absurd (omega (arith, some))
wire-first bytes (s ∷ sides) some is = sym (is s refl)

pub given-first : (w : WorldState) (old : Seen) (bytes : List ℕ) → Shows old w → wire_of (slice_get old.sides 0) ≡ bytes → given_by 0 w (Alone 0 Writes) ≡ bytes
given-first w old bytes shows is = ap (λ (l : List Side). wire_of (slice_get l 0)) (sym shows.sides) ∙ is

-- Replies that wait, and unread bytes.

pub waits-first : (n : ℕ) (sides : List Side) → ((s : Side) → slice_get sides 0 ≡ Some s → n ≡ length s.queue) → 0 < length sides → n ≡ waiting sides
waits-first n [] is some = absurd (omega (arith, some))
waits-first n (s ∷ sides) is some = is s refl

pub none-waits : (P : Side → Type 0) (sides : List Side) → OfFirst P sides → waiting sides ≡ 0 → OfFirst IsEmptied sides
none-waits P [] p none = absurd p
none-waits P (s ∷ sides) p none = nil_from_length s.queue none

pub fewer-wait : (old new : List Side) → OfBoth RepliesOnce old new → 0 < waiting old → waiting new < waiting old
fewer-wait [] new once some = absurd once
fewer-wait (s ∷ old) [] once some = absurd once
fewer-wait (s ∷ old) (s' ∷ new) once some = omega (arith, once.fewer, some)

pub fewer-unread : (answer : Step) (old new : List Side) → OfBoth (Answers answer) old new → (answer ≡ Idle → ⊥) → unread new < unread old
fewer-unread answer [] new a some = absurd a
fewer-unread answer (s ∷ old) [] a some = absurd a
fewer-unread answer (s ∷ old) (s' ∷ new) a some = shorter_unless answer (length s.session.unread) (length s'.session.unread) some a.shorter

-- A frame may be processed once all before it were answered.

pub may-step : (r : Reader) (t : ℕ) (w : WorldState) (old : Seen) → Shows old w → OfFirst IsAnswered old.sides → MayCome r t w (Alone 0 (Steps t))
may-step r t w old shows answered = (refl, subst (OfFirst IsAnswered) shows.sides answered)

-- Bytes may arrive once all frames were processed and answered.

pub may-come : (r : Reader) (t : ℕ) (bytes : List ℕ) (w : WorldState) (old : Seen) → Shows old w → OfFirst IsAnswered old.sides → OfFirst IsAllHeard old.sides → MayCome r t w (Alone 0 (Pieces bytes))
may-come r t bytes w old shows answered heard =
    (subst (OfFirst IsAnswered) shows.sides answered, subst (OfFirst (IsHeardOut r)) shows.sides (of-so IsAllHeard (IsHeardOut r) old.sides heard (λ s h. h r)))
