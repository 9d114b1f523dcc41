-- A whole run.
use Rattle.std.proofs.Common.{◌≡◌, ◌≤◌, ◌-◌, ◌==◌, ℕ, suc, zero, List, [], ◌∷◌, ◌++◌, length, max, Bool, true, false, if◌then◌else◌, Option, Some, None, option_to_list, refl, sym, ap, ◌∙◌, subst, append-nil, arith}
use Rattle.std.specs.Io.KnownBytes.{Appends, Consumes}
use Rattle.std.proofs.KnownBytes.{Appends-nil, Consumes-nil}
use Rattle.std.proofs.Math.Nat.{max-eq_right}
use Rattle.fix_dictionary.specs.declared.messages.App.{App}
use Rattle.fix_dictionary.specs.declared.messages.Item.{Item}
use Rattle.fix_session.specs.Chain.{accepted}
use Rattle.fix_session.specs.Reader.{Reader}
use Rattle.fix_session.specs.Sent.{numbered}
use Rattle.venue_rules.specs.Market.{Market}
use Rattle.venue_rules.specs.Run.{Input, Message, Tick, owed}
use Rattle.venue_world.specs.declared.world_event.WorldEvent.{WorldEvent}
use Rattle.venue_world.specs.declared.world_event.WorldEvent.TheVariants.{Alone, Takes, VenueTicks}
use Rattle.venue_world.specs.declared.world_event.SessionEvent.TheVariants.{Resumes, Cuts}
use Rattle.outbound_queue.specs.declared.outgoing.Outgoing.{Outgoing}
use Rattle.outbound_queue.specs.declared.outgoing.Outgoing.TheVariants.{Message as Reply, Cut}
use Rattle.outbound_queue.specs.Taken.{items_from}
use Rattle.venue_world.specs.Headline.{Headline, OwedAll, TakenThenWaiting, heard_of, items_of, was_cut}
use Rattle.venue_world.specs.Seen.{Seen, Shows}
use Rattle.outbound_queue.specs.Owed.{outgoing}
use Rattle.venue_world.specs.Side.{Side, for_session, for_venue}
use Rattle.venue_world.specs.Wires.{WiresLoseNothing}
use Rattle.venue_world.specs.World.{WorldState, after_act, after_all, answered, at, emptied, first_behind, fresh_world, is_due, message_from, replies_after, seat_at, takes, unless_behind}
use Rattle.once_session.specs.Acts.{IsAnswered, IsHeardOut, Leads, MayCome, OfFirst}
use Rattle.once_session.specs.Course.{IsAllHeard, Wrote}
use Rattle.once_session.specs.Reading.{Halts}
use Rattle.once_session.specs.Stream.{AnswersStream, Owes, Stopped, cuts_behind, opened, opening, run_of, taken}
use Rattle.once_session.proofs.First.{of-so}
use Rattle.once_session.proofs.Going.{after-append}
use Rattle.once_session.proofs.Queued.{all-queued}
use Rattle.once_session.proofs.Uncut.{KeepsItsWord, run-uncut}

-- All items taken came from the first participant, at t.

record AtMoment (t : ℕ) (w : WorldState) : Type 0 where
  pub moment : w.moment ≤ t
  pub items : w.items ≡ taken t (items_from 0 w.items)

taken-more : (t : ℕ) (items : List Item) (x : Item) → taken t (items ++ x ∷ []) ≡ taken t items ++ message_from 0 x t ∷ []
taken-more t [] x = refl
taken-more t (y ∷ items) x = ap (λ (l : List Input). message_from 0 y t ∷ l) (taken-more t items x)

one-more-if : (b : Bool) (y x : Item) (l l' : List Item) → l' ≡ l ++ x ∷ [] → (if b then y ∷ l' else l') ≡ (if b then y ∷ l else l) ++ x ∷ []
one-more-if true y x l l' e = ap (λ (k : List Item). y ∷ k) e
one-more-if false y x l l' e = e

taken-from-more : (u : ℕ) (items : List Input) (x : Item) → items_from 0 (items ++ message_from 0 x u ∷ []) ≡ items_from 0 items ++ x ∷ []
taken-from-more u [] x = refl
taken-from-more u (Message y t ∷ items) x = one-more-if (y.from == 0) y.item x (items_from 0 items) (items_from 0 (items ++ message_from 0 x u ∷ [])) (taken-from-more u items x)
taken-from-more u (Tick t ∷ items) x = taken-from-more u items x

items-more : (t : ℕ) (w : WorldState) (x : Item) → AtMoment t w → w.items ++ message_from 0 x t ∷ [] ≡ taken t (items_from 0 (w.items ++ message_from 0 x t ∷ []))
items-more t w x h =
    ap (λ (l : List Input). l ++ message_from 0 x t ∷ []) h.items ∙ sym (taken-more t (items_from 0 w.items) x) ∙ ap (taken t) (sym (taken-from-more t w.items x))

unless-at : (t : ℕ) (fb : Option ℕ) (w' w : WorldState) → AtMoment t w' → AtMoment t w → AtMoment t (unless_behind fb w' w)
unless-at t None w' w h' h = h'
unless-at t (Some j) w' w h' h = h

takes-at : (t : ℕ) (w : WorldState) (due : Bool) (seat : Option Item) → AtMoment t w → AtMoment t (takes w 0 t due seat)
takes-at t w true seat h = h
takes-at t w false None h = record { moment = omega arith; items = h.items }
takes-at t w false (Some x) h =
    let item = message_from 0 x t in
    unless-at t (first_behind 0 (replies_after w.market w.items item) w.sides) (answered w item t (at 0 emptied w.sides)) w (record { moment = omega arith; items = items-more t w x h }) h

take-at : (r : Reader) (t : ℕ) (w : WorldState) → AtMoment t w → AtMoment t (after_act r w (Takes 0 t))
take-at r t w h =
    let e : max w.moment t ≡ t = max-eq_right h.moment in
    subst (λ (u : ℕ). AtMoment t (takes w 0 u (is_due w.market w.items u) (seat_at 0 w.sides))) (sym e)
    (takes-at t w (is_due w.market w.items t) (seat_at 0 w.sides) h)

one-at : (r : Reader) (t : ℕ) (w : WorldState) (a : WorldEvent) → MayCome r t w a → AtMoment t w → AtMoment t (after_act r w a)
one-at r t w (Alone zero x) may h = record { moment = h.moment; items = h.items }
one-at r t w (Alone (suc k) x) may h = absurd may
one-at r t w (Takes zero u) may h = subst (λ (v : ℕ). AtMoment t (after_act r w (Takes 0 v))) (sym may) (take-at r t w h)
one-at r t w (Takes (suc k) u) may h = absurd may
one-at r t w (VenueTicks u) may h = absurd may

all-at : (r : Reader) (t : ℕ) (w : WorldState) (acts : List WorldEvent) → Leads r t w acts → AtMoment t w → AtMoment t (after_all r w acts)
all-at r t w [] leads h = h
all-at r t w (a ∷ acts) leads h = all-at r t (after_act r w a) acts leads.1 (one-at r t w a leads.0 h)

cuts-at : (r : Reader) (t : ℕ) (w : WorldState) (k : ℕ) → AtMoment t w → AtMoment t (after_all r w (cuts_behind k))
cuts-at r t w zero h = h
cuts-at r t w (suc k) h =
    let before = cuts-at r t w k h in
    subst (AtMoment t) (sym (after-append r w (cuts_behind k) (Alone (suc k) Cuts ∷ []))) (record { moment = before.moment; items = before.items })

up-at : (r : Reader) (t : ℕ) (w : WorldState) (k : ℕ) → AtMoment t w → AtMoment t (after_all r w (cuts_behind k ++ Alone 0 (Resumes t) ∷ []))
up-at r t w k h =
    let before = cuts-at r t w k h in
    subst (AtMoment t) (sym (after-append r w (cuts_behind k) (Alone 0 (Resumes t) ∷ []))) (record { moment = before.moment; items = before.items })

fresh-at : (m : Market) (t : ℕ) → AtMoment t (fresh_world m)
fresh-at m t = record { moment = omega arith; items = refl }

opened-at : (r : Reader) (m : Market) (t : ℕ) → AtMoment t (opened r m t)
opened-at r m t = up-at r t (fresh_world m) (length m.participants.names - 1) (fresh-at m t)

-- Where nothing waits, all that was accepted is taken, and all that is owed is numbered.

none-for-venue : (s : Side) → IsAnswered s → for_venue s ≡ []
none-for-venue s a = ap (λ (seat : Option Item). option_to_list seat ++ s.session.ready) a.none_in_seat ∙ a.none_ready

none-for-session : (s : Side) → IsAnswered s → for_session s ≡ []
none-for-session s a = ap (λ (reply : Option Outgoing). option_to_list reply ++ s.queue) a.no_reply ∙ a.none_queued

first-taken : (r : Reader) (m : Market) (acts : List WorldEvent) (sides : List Side) → OfFirst IsAnswered sides → TakenThenWaiting sides r m acts → items_from 0 (items_of r m acts) ≡ accepted (heard_of r m 0 acts)
first-taken r m acts [] a law = absurd a
first-taken r m acts (s ∷ sides) a law =
    let all = items_from 0 (items_of r m acts) in
    sym (append-nil all) ∙ ap (λ (l : List Item). all ++ l) (sym (none-for-venue s a)) ∙ law 0 s refl

abbrev apps : List Outgoing → List App
apps [] = []
apps (Reply app ∷ rest) = app ∷ apps rest
apps (Cut ∷ rest) = apps rest

apps-of : (l : List App) → apps (outgoing l) ≡ l
apps-of [] = refl
apps-of (app ∷ l) = ap (λ (k : List App). app ∷ k) (apps-of l)

first-owed : (r : Reader) (m : Market) (acts : List WorldEvent) (sides : List Side) → OfFirst IsAnswered sides → was_cut 0 acts ≡ false → OwedAll sides r m acts → OfFirst (Owes m (items_of r m acts)) sides
first-owed r m acts [] a uncut law = absurd a
first-owed r m acts (s ∷ sides) a uncut law =
    let sent = outgoing (numbered s.session) in
    let is : sent ≡ outgoing (owed m 0 (items_of r m acts)) = sym (append-nil sent) ∙ ap (λ (l : List Outgoing). sent ++ l) (sym (none-for-session s a)) ∙ law 0 s refl uncut in
    sym (apps-of (numbered s.session)) ∙ ap apps is ∙ apps-of (owed m 0 (items_of r m acts))

-- A whole run.

abbrev pub LosesNothing : Type 0
LosesNothing = (r : Reader) (m : Market) (acts : List WorldEvent) → WiresLoseNothing (after_all r (fresh_world m) acts).sides r m acts

pub answers-stream : KeepsItsWord → LosesNothing → (r : Reader) (m : Market) (t : ℕ) (old new : Seen) (input : List ℕ) (held held' : Option (List ℕ)) → Shows old (opened r m t)
    → OfFirst IsAnswered new.sides → OfFirst IsAllHeard new.sides → Wrote t old new input held held'
    → (output : List ℕ) × AnswersStream r m t input output × Appends held held' output
answers-stream law wires r m t old new input held held' opens is_answered is_heard wrote =
    let w : WorldState = opened r m t in
    let acts = wrote.went.acts in
    let leads = wrote.went.leads r w opens in
    let last : WorldState = after_all r w acts in
    let sides = (wrote.went.shows r w opens).sides in
    let all = run_of m t acts in
    let joined : after_all r (fresh_world m) all ≡ last = after-append r (fresh_world m) (opening (length m.participants.names) t) acts in
    let word : Headline last.sides last.moment r m all = subst (λ (x : WorldState). Headline x.sides x.moment r m all) joined (law r m all) in
    let lose : WiresLoseNothing last.sides r m all = subst (λ (x : WorldState). WiresLoseNothing x.sides r m all) joined (wires r m all) in
    let answered_there : OfFirst IsAnswered last.sides = subst (OfFirst IsAnswered) sides is_answered in
    let at_t : AtMoment t (after_all r (fresh_world m) all) = subst (AtMoment t) (sym joined) (all-at r t w acts leads (opened-at r m t)) in (
      wrote.given,
      record {
        acts = acts;
        leads = leads;
        reads = wrote.went.reads;
        heard = subst (OfFirst (IsHeardOut r)) sides (of-so IsAllHeard (IsHeardOut r) new.sides is_heard (λ s h. h r));
        answered = answered_there;
        takes = at_t.items ∙ ap (taken t) (first-taken r m all last.sides answered_there word.taken_then_waiting);
        owes = first-owed r m all last.sides answered_there (run-uncut r m t acts leads) word.owed_all;
        gives = wrote.went.gives r w opens;
        queued = all-queued law r m t acts last.sides leads answered_there lose ∙ wrote.went.gives r w opens;
      },
      wrote.written,
    )

-- a stopped run
pub stopped-at : (r : Reader) (m : Market) (t : ℕ) (old : Seen) (left left' held held' : Option (List ℕ)) → Shows old (opened r m t) → Halts t old left left' held held' → Stopped r m t left left' held held'
stopped-at r m t old left left' held held' opens h =
    let w : WorldState = opened r m t in
    record {
      acts = h.wrote.went.acts;
      lost = h.lost;
      leads = h.wrote.went.leads r w opens;
      consumed = subst (λ (l : List ℕ). Consumes left left' (l ++ h.lost)) (sym h.wrote.went.reads) h.consumed;
      short = h.short;
      written = subst (Appends held held') (sym (h.wrote.went.gives r w opens)) h.wrote.written;
    }

-- before anything is read
pub stopped-at-once : (r : Reader) (m : Market) (t : ℕ) (left held : Option (List ℕ)) → Stopped r m t left left held held
stopped-at-once r m t left held = record { acts = []; lost = []; leads = tt; consumed = Consumes-nil left; short = omega arith; written = Appends-nil held }
