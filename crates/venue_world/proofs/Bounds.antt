-- The number of sides and the length of each queue; the senders and moments of messages taken.
use Rattle.std.proofs.Common.{◌≡◌, ℕ, zero, suc, ◌+◌, ◌≤◌, ◌<◌, Bool, true, false, List, [], ◌∷◌, ◌++◌, length, map, max, refl, sym, ap, ◌∙◌, arith, subst, length-append, Option, Some, None}
use Rattle.std.specs.Prelude.{◌&&◌, not, nat_lt, if◌then◌else◌, slice_get}
use Rattle.std.proofs.Math.Nat.{le-max_left}
use Rattle.std.proofs.lemmas.Bool.Decides.{nat_tests}
use Rattle.std.proofs.lemmas.List.{length-map}
use Rattle.fix_dictionary.specs.declared.messages.App.{App}
use Rattle.fix_dictionary.specs.declared.messages.Item.{Item}
use Rattle.fix_session.specs.Reader.{Reader}
use Rattle.fix_session.specs.Table.{are_numbers_spent}
use Rattle.participants.specs.ParticipantFile.{ParticipantFile}
use Rattle.venue_rules.specs.declared.replies.Reply.{Reply}
use Rattle.venue_rules.specs.Limits.{IsRising, moment_of}
use Rattle.venue_rules.specs.Market.{Market}
use Rattle.venue_rules.specs.Messages.{message}
use Rattle.venue_rules.specs.Run.{Input, Message, Tick, replies_to}
use Rattle.venue_world.specs.declared.world_event.WorldEvent.{WorldEvent}
use Rattle.venue_world.specs.declared.world_event.WorldEvent.TheVariants.{Alone, Takes, VenueTicks}
use Rattle.venue_world.specs.declared.world_event.SessionEvent.{SessionEvent}
use Rattle.venue_world.specs.declared.world_event.SessionEvent.TheVariants.{Pieces, Steps, Ticks, Breaks, Resumes, Hands, Delivers, Collects, Cuts, Writes}
use Rattle.venue_rules.specs.MoreInputs.{said_to}
use Rattle.outbound_queue.specs.Owed.{added, most_queued}
use Rattle.outbound_queue.specs.declared.outgoing.Outgoing.{Outgoing}
use Rattle.outbound_queue.specs.declared.outgoing.Outgoing.TheVariants as outgoing_is
use Rattle.venue_world.specs.Side.{Side, collected, delivered, does, fresh_side, handed}
use Rattle.venue_world.specs.World.{WorldState, after_act, after_all, answered, at, emptied, first_behind, fresh_world, ids_of, is_behind, is_due, message_from, posted, replies_after, seat_at, takes, ticks, unless_behind}
use Rattle.venue_world.specs.Headline.{AreFrom, QueuesAreFew}
use Rattle.venue_world.proofs.Behind.{emptied_behind}
use Rattle.venue_world.proofs.Lists.{IsAt, here, there, heard_by, side_at, side_posted}
use Rattle.venue_world.proofs.Places.{length-at, length-posted}

-- One queue.

abbrev IsFew : Side → Type 0
IsFew s = length s.queue ≤ most_queued

if_few : (b : Bool) (s s' : Side) → IsFew s → IsFew s' → IsFew (if b then s else s')
if_few true s s' few few' = few
if_few false s s' few few' = few'

handed_few : (s : Side) (seat : Option Item) (ready : List Item) → IsFew s → IsFew (handed s seat ready)
handed_few s (Some x) ready few = few
handed_few s None [] few = few
handed_few s None (x ∷ rest) few = few

delivered_few : (s : Side) (reply : Option Outgoing) (queue : List Outgoing) → IsFew s → length queue ≤ most_queued → IsFew (delivered s reply queue)
delivered_few s (Some x) queue few less = few
delivered_few s None [] few less = few
delivered_few s None (x ∷ rest) few less = omega (arith, less)

collected_few : (s : Side) (t : ℕ) (reply : Option Outgoing) → IsFew s → IsFew (collected s t reply)
collected_few s t None few = few
collected_few s t (Some (outgoing_is.Message app)) few = if_few (are_numbers_spent s.session) s _ few few
collected_few s t (Some outgoing_is.Cut) few = few

does_few : (r : Reader) (x : SessionEvent) (s : Side) → IsFew s → IsFew (does r x s)
does_few r (Pieces bytes) s few = few
does_few r (Steps t) s few = few
does_few r (Ticks t) s few = few
does_few r Breaks s few = few
does_few r (Resumes t) s few = few
does_few r Hands s few = handed_few s s.seat s.session.ready few
does_few r Delivers s few = delivered_few s s.reply s.queue few few
does_few r (Collects t) s few = collected_few s (max s.moment t) s.reply few
does_few r Cuts s few = if_few s.is_cut s _ few (omega arith)
does_few r Writes s few = few

-- Nobody is behind.

none_behind : (replies : List Reply) (sides : List Side) (k j : ℕ) (s : Side) → first_behind k replies sides ≡ None → slice_get sides j ≡ Some s → is_behind (k + j) replies s ≡ false
none_behind replies [] k j s none e = absurd (cc)
none_behind replies (z ∷ sides) k j s none e = by (is_behind k replies z) refl j e (λ i later at_i. none_behind replies sides (k + 1) i s later at_i)
  where
    by : (b : Bool) → is_behind k replies z ≡ b → (j : ℕ) → slice_get (z ∷ sides) j ≡ Some s → ((i : ℕ) → first_behind (k + 1) replies sides ≡ None → slice_get sides i ≡ Some s → is_behind (k + 1 + i) replies s ≡ false) → is_behind (k + j) replies s ≡ false
    by true is j e rest = absurd (let some : Some k ≡ None = ap (λ (b : Bool). if b then Some k else first_behind (k + 1) replies sides) (sym is) ∙ none in cc)
    by false is zero e rest =
        let same : z ≡ s = cc in
        ap (λ (n : ℕ). is_behind n replies s) (let e : k + 0 ≡ k = omega arith in e) ∙ ap (is_behind k replies) (sym same) ∙ is
    by false is (suc j) e rest =
        let later : first_behind (k + 1) replies sides ≡ None = ap (λ (b : Bool). if b then Some k else first_behind (k + 1) replies sides) (sym is) ∙ none in
        ap (λ (n : ℕ). is_behind n replies s) (let e : k + suc j ≡ k + 1 + j = omega arith in e) ∙ rest j later e

-- the number of replies for this one
count : ℕ → List Reply → ℕ
count who replies = length (replies_to who replies)

length-said_to : (who : ℕ) (replies : List Reply) → length (said_to who replies) ≡ count who replies
unfolding count
length-said_to who replies = length-map (replies_to who replies) (λ (r : Reply). message r.what)

length-added : (b : Bool) (apps : List App) → length (added b apps) ≡ (if b then 0 else length apps)
length-added true apps = refl
length-added false apps = length-map apps outgoing_is.Message

-- the test of a side, by the count of its replies
abbrev test : Bool → ℕ → ℕ → Bool
test cut n queued = not cut && nat_lt 0 n && nat_lt most_queued (queued + n)

is_test : (who : ℕ) (replies : List Reply) (s : Side) → is_behind who replies s ≡ test s.is_cut (count who replies) (length s.queue)
unfolding count
is_test who replies s = refl

still_few : (cut : Bool) (n queued : ℕ) → test cut n queued ≡ false → queued ≤ most_queued → queued + (if cut then 0 else n) ≤ most_queued
still_few true n queued not_behind few = omega (arith, few)
still_few false n queued not_behind few = grind (arith, nat_tests)

heard_few : (who : ℕ) (replies : List Reply) (s : Side) → is_behind who replies s ≡ false → IsFew s → IsFew (heard_by who replies s)
heard_few who replies s not_behind few =
    let long : length (s.queue ++ added s.is_cut (said_to who replies)) ≡ length s.queue + (if s.is_cut then 0 else count who replies) =
    length-append s.queue (added s.is_cut (said_to who replies))
    ∙ ap (λ (n : ℕ). length s.queue + n) (length-added s.is_cut (said_to who replies) ∙ ap (λ (n : ℕ). if s.is_cut then 0 else n) (length-said_to who replies)) in
    subst (λ (n : ℕ). n ≤ most_queued) (sym long) (still_few s.is_cut (count who replies) (length s.queue) (sym (is_test who replies s) ∙ not_behind) few)

posted_few : (replies : List Reply) (sides : List Side) → first_behind 0 replies sides ≡ None → QueuesAreFew sides → QueuesAreFew (posted replies sides)
posted_few replies sides none few j s' s'_at =
    let u = side_posted replies sides j s' s'_at in
    let free : is_behind j replies u.0 ≡ false = ap (λ (n : ℕ). is_behind n replies u.0) (let e : j ≡ 0 + j = omega arith in e) ∙ none_behind replies sides 0 j u.0 none u.1 in
    subst IsFew (sym u.2) (heard_few j replies u.0 free (few j u.0 u.1))

at_few : (k : ℕ) (f : Side → Side) (sides : List Side) → ((s : Side) → IsFew s → IsFew (f s)) → QueuesAreFew sides → QueuesAreFew (at k f sides)
at_few k f sides keeps few i s' s'_at = (let u = side_at sides k i f s' s'_at in go u.0 u.1 u.2)
  where
    go : (s : Side) → slice_get sides i ≡ Some s → IsAt k i f s s' → IsFew s'
    go s s_at (here e is) = subst IsFew (sym is) (keeps s (few i s s_at))
    go s s_at (there ne is) = subst IsFew (sym is) (few i s s_at)

-- Senders and moments.

from-append : (n : ℕ) (xs ys : List Input) → AreFrom n xs → AreFrom n ys → AreFrom n (xs ++ ys)
from-append n [] ys p q = q
from-append n (Message taken t ∷ xs) ys p q = (p.0, from-append n xs ys p.1 q)
from-append n (Tick t ∷ xs) ys p q = from-append n xs ys p q

rising_more : (from : ℕ) (is : List Input) (to : ℕ) (i : Input) → IsRising from is to → to ≤ moment_of i → IsRising from (is ++ i ∷ []) (moment_of i)
rising_more from [] to i low less = (omega (arith, low, less), omega arith)
rising_more from (x ∷ is) to i low less = (low.0, rising_more (moment_of x) is to i low.1 less)

rising_later : (from : ℕ) (is : List Input) (to later : ℕ) → IsRising from is to → to ≤ later → IsRising from is later
rising_later from [] to later low less = omega (arith, low, less)
rising_later from (x ∷ is) to later low less = (low.0, rising_later (moment_of x) is to later low.1 less)

full_below : (sides : List Side) (k : ℕ) (x : Item) → seat_at k sides ≡ Some x → k < length sides
full_below [] k x e = absurd (cc)
full_below (s ∷ sides) zero x e = omega arith
full_below (s ∷ sides) (suc k) x e = (let rest = full_below sides k x e in omega (arith, rest))

pub record Bounded (w : WorldState) : Type 0 where
  pub sides : length w.sides ≡ length w.market.participants.names
  pub senders : AreFrom (length w.market.participants.names) w.items
  pub moments : IsRising 0 w.items w.moment
  pub few : QueuesAreFew w.sides

alone_bounded : (r : Reader) (w : WorldState) (k : ℕ) (x : SessionEvent) → Bounded w → Bounded (after_act r w (Alone k x))
alone_bounded r w k x b = record {
  sides = length-at w.sides k (does r x) ∙ b.sides;
  senders = b.senders;
  moments = b.moments;
  few = at_few k (does r x) w.sides (does_few r x) b.few;
}

waits_bounded : (w : WorldState) (t : ℕ) → w.moment ≤ t → Bounded w → Bounded (record w { moment = t })
waits_bounded w t later b = record { sides = b.sides; senders = b.senders; moments = rising_later 0 w.items w.moment t b.moments later; few = b.few }

-- an item is answered, with nobody behind
unless_bounded : (w : WorldState) (item : Input) (t : ℕ) (sides : List Side) (fb : Option ℕ) → first_behind 0 (replies_after w.market w.items item) w.sides ≡ fb → first_behind 0 (replies_after w.market w.items item) sides ≡ fb
    → w.moment ≤ t → moment_of item ≡ t → length sides ≡ length w.sides → QueuesAreFew sides → AreFrom (length w.market.participants.names) (item ∷ []) → Bounded w → Bounded (unless_behind fb (answered w item t sides) w)
unless_bounded w item t sides (Some j) is is' later at_t long few from b = b
unless_bounded w item t sides None is is' later at_t long few from b = record {
  sides = length-posted (replies_after w.market w.items item) sides ∙ long ∙ b.sides;
  senders = from-append (length w.market.participants.names) w.items (item ∷ []) b.senders from;
  moments = subst (λ (n : ℕ). IsRising 0 (w.items ++ item ∷ []) n) at_t (rising_more 0 w.items w.moment item b.moments (subst (λ (n : ℕ). w.moment ≤ n) (sym at_t) later));
  few = posted_few (replies_after w.market w.items item) sides is' few;
}

takes_bounded : (w : WorldState) (k t : ℕ) (b : Bool) (seat : Option Item) → seat_at k w.sides ≡ seat → w.moment ≤ t → Bounded w → Bounded (takes w k t b seat)
takes_bounded w k t true seat full later b = b
takes_bounded w k t false None full later b = waits_bounded w t later b
takes_bounded w k t false (Some x) full later b =
    let rs = replies_after w.market w.items (message_from k x t) in
    let low : k < length w.market.participants.names = subst (λ (n : ℕ). k < n) b.sides (full_below w.sides k x full) in
    unless_bounded w (message_from k x t) t (at k emptied w.sides) (first_behind 0 rs w.sides) refl (emptied_behind rs w.sides 0 k) later refl (length-at w.sides k emptied)
    (at_few k emptied w.sides (λ s few. few) b.few) (low, tt) b

ticks_bounded : (w : WorldState) (t : ℕ) (b : Bool) → w.moment ≤ t → Bounded w → Bounded (ticks w t b)
ticks_bounded w t false later b = waits_bounded w t later b
ticks_bounded w t true later b =
    unless_bounded w (Tick t) t w.sides (first_behind 0 (replies_after w.market w.items (Tick t)) w.sides) refl refl later refl refl b.few tt b

act_bounded : (r : Reader) (w : WorldState) (a : WorldEvent) → Bounded w → Bounded (after_act r w a)
act_bounded r w (Alone k x) b = alone_bounded r w k x b
act_bounded r w (Takes k t) b = takes_bounded w k (max w.moment t) (is_due w.market w.items (max w.moment t)) (seat_at k w.sides) refl (le-max_left w.moment t) b
act_bounded r w (VenueTicks t) b = ticks_bounded w (max w.moment t) (is_due w.market w.items (max w.moment t)) (le-max_left w.moment t) b

pub acts_bounded : (r : Reader) (w : WorldState) (acts : List WorldEvent) → Bounded w → Bounded (after_all r w acts)
acts_bounded r w [] b = b
acts_bounded r w (a ∷ acts) b = acts_bounded r (after_act r w a) acts (act_bounded r w a b)

-- From a new world on.

pub fresh_side_at : (file : ParticipantFile) (names : List (List ℕ)) (i : ℕ) (s : Side) → slice_get (map (λ name. fresh_side (ids_of file name)) names) i ≡ Some s → (name : List ℕ) × (slice_get names i ≡ Some name) × (s ≡ fresh_side (ids_of file name))
fresh_side_at file [] i s e = absurd (cc)
fresh_side_at file (n ∷ names) zero s e = let same : s ≡ fresh_side (ids_of file n) = cc in (n, refl, same)
fresh_side_at file (n ∷ names) (suc i) s e = fresh_side_at file names i s e

pub fresh_bounded : (m : Market) → Bounded (fresh_world m)
fresh_bounded m = record {
  sides = length-map m.participants.names (λ name. fresh_side (ids_of m.participants name));
  senders = tt;
  moments = omega arith;
  few = λ i s e. (let u = fresh_side_at m.participants m.participants.names i s e in subst IsFew (sym u.2) (omega arith));
}
