-- An act at one slot, by all sides.
use Rattle.std.proofs.Common.{◌≡◌, ℕ, zero, suc, ◌+◌, ◌<◌, ◌≤◌, Bool, true, false, List, [], ◌∷◌, ◌++◌, length, map, max, take, get_or, set, length-set, refl, sym, ap, ◌∙◌, arith, subst, Option, Some, None, Result, Ok, Err}
use Rattle.std.specs.Prelude.{IfErr, IfOk, IsSome, OnErr, OnOk, if◌then◌else◌, is_some, slice_get}
use Rattle.fix_dictionary.specs.declared.messages.Item.{Item}
use Rattle.fix_session.specs.Reader.{Reader}
use Rattle.fix_session.specs.Machine.{step}
use Rattle.fix_session.specs.declared.plan.Step.{Step}
use Rattle.participants.specs.ParticipantFile.{ParticipantFile}
use Rattle.participants.specs.Relations.{name_of}
use Rattle.outbound_queue.specs.declared.outgoing.Outgoing.{Outgoing}
use Rattle.outbound_queue.specs.declared.outgoing.Outgoing.TheVariants.{Cut}
use Rattle.outbound_queue.specs.declared.queue.Queue.{Queue}
use Rattle.venue_engine.specs.Ledger.{Ledger}
use Rattle.venue_engine.specs.Queued.{AreEmpty, IsCut}
use Rattle.venue_engine.specs.Step.{IsDue, IsFront, IsTick}
use Rattle.venue_rules.specs.declared.trail.EventFault.{EventFault}
use Rattle.venue_rules.specs.declared.trail.EventFault.TheVariants.{Behind, Due, Down, NoMemory, TrailRefused}
use Rattle.venue_world.specs.declared.world_event.SessionEvent.{SessionEvent}
use Rattle.venue_world.specs.declared.world_event.SessionEvent.TheVariants.{Pieces, Steps, Ticks, Breaks, Resumes, Hands, Delivers, Collects, Cuts, Writes}
use Rattle.venue_world.specs.declared.session_slot.SessionSlot.{SessionSlot}
use Rattle.venue_world.specs.Memory.{MayFail}
use Rattle.venue_world.specs.Seen.{takes_memory}
use Rattle.venue_world.specs.Side.{Side, delivered, does, fresh_side}
use Rattle.venue_world.specs.Slots.{AreFreshSlots, IsCauseAlone, IsDoneAt, IsFreshSlot, IsStillAt, side_of, sides_of}
use Rattle.venue_world.specs.Taken.{IsTake}
use Rattle.venue_world.specs.World.{ids_of, refusal_at}
use Rattle.venue_world.proofs.Places.{parts_at, set_same, some_at}

-- a failing act of one side may allocate
pub free_at : {A : Type 0} (i : ℕ) (x : SessionEvent) (side : Option Side) (result : Result A EventFault) → IfErr result (λ fault. IsCauseAlone (refusal_at i x side) x fault) → OnErr result (takes_memory x ≡ true)
free_at i x side (Ok y) f = tt
free_at i x side (Err fault) f = by x fault f
  where
    of_none : (x : SessionEvent) (fault : EventFault) → IsCauseAlone None x fault → takes_memory x ≡ true
    of_none x NoMemory f = f.0
    of_none x TrailRefused f = absurd f
    of_none x (Behind j) f = absurd (cc)
    of_none x (Down j) f = absurd (cc)
    of_none x Due f = absurd (cc)

    by : (x : SessionEvent) (fault : EventFault) → IsCauseAlone (refusal_at i x side) x fault → takes_memory x ≡ true
    by (Pieces bytes) fault f = refl
    by (Steps t) fault f = refl
    by (Ticks t) fault f = refl
    by Breaks fault f = of_none Breaks fault f
    by (Resumes t) fault f = of_none (Resumes t) fault f
    by Hands fault f = of_none Hands fault f
    by Delivers fault f = of_none Delivers fault f
    by (Collects t) fault f = refl
    by Cuts fault f = of_none Cuts fault f
    by Writes fault f = of_none Writes fault f

pub always : {A B : Type 0} (result : Result A B) → OnErr result (true ≡ true)
always (Ok y) = tt
always (Err f) = refl

-- a side is cut as its queue is
pub cut_side : (d : SessionSlot) (q q' : Queue) → IsCut q q' q.is_cut → side_of d q' ≡ (if q.is_cut then side_of d q else record (side_of d q) { queue = Cut ∷ []; is_cut = true })
cut_side d q q' cut = go q.is_cut refl cut
  where
    go : (b : Bool) → q.is_cut ≡ b → IsCut q q' b → side_of d q' ≡ (if b then side_of d q else record (side_of d q) { queue = Cut ∷ []; is_cut = true })
    go true was c = λ j. record (side_of d q) { queue = c.0 j; is_cut = (c.1 ∙ sym was) j }
    go false was c = λ j. record (side_of d q) { queue = c.0 j; is_cut = c.1 j }

-- one slot more
fresh_suc : (file : ParticipantFile) (names : List (List ℕ)) (slots : List SessionSlot) (d : SessionSlot) (k : ℕ) → k < length names → AreFreshSlots file (take k names) slots → IsFreshSlot file (get_or names k []) d → AreFreshSlots file (take (suc k) names) (slots ++ d ∷ [])
fresh_suc file [] slots d k low all here = absurd (omega arith)
fresh_suc file (n ∷ names) [] d zero low all here = (here, tt)
fresh_suc file (n ∷ names) (x ∷ slots) d zero low all here = absurd all
fresh_suc file (n ∷ names) [] d (suc k) low all here = absurd all
fresh_suc file (n ∷ names) (x ∷ slots) d (suc k) low all here = (all.0, fresh_suc file names slots d k (omega arith) all.1 here)

pub fresh_more : (file : ParticipantFile) (slots : List SessionSlot) (d : SessionSlot) (k who : ℕ) → who ≡ k → k < length file.names → AreFreshSlots file (take k file.names) slots → IsFreshSlot file (name_of file who) d → AreFreshSlots file (take (k + 1) file.names) (slots ++ d ∷ [])
fresh_more file slots d k who is low all here =
    subst (λ (n : ℕ). AreFreshSlots file (take n file.names) (slots ++ d ∷ [])) (let e : suc k ≡ k + 1 = omega arith in e)
    (fresh_suc file file.names slots d k low all (subst (λ (n : ℕ). IsFreshSlot file (name_of file n) d) is here))

-- the sides of a new world
pub fresh_sides : (file : ParticipantFile) (names : List (List ℕ)) (slots : List SessionSlot) (queues : List Queue) → AreFreshSlots file names slots → length slots ≡ length queues → AreEmpty queues → sides_of slots queues ≡ map (λ name. fresh_side (ids_of file name)) names
fresh_sides file [] [] queues all long empty = refl
fresh_sides file [] (d ∷ slots) queues all long empty = absurd all
fresh_sides file (n ∷ names) [] queues all long empty = absurd all
fresh_sides file (n ∷ names) (d ∷ slots) [] all long empty = absurd (omega (arith, long))
fresh_sides file (n ∷ names) (d ∷ slots) (q ∷ queues) all long empty =
    let f = all.0 in
    let e = empty 0 q refl in
    (λ j. record { session = f.session j; moment = f.moment j; seat = f.seat j; reply = f.reply j; queue = e.0 j; is_cut = e.1 j } ∷ fresh_sides file names slots queues all.1 (omega (arith, long)) (λ k x at. empty (suc k) x at) j)

-- an act at a slot alone, whatever the queues
pub own_done : (i : ℕ) (l : Ledger) (d d' : SessionSlot) (f : Reader → Side → Side) → i < length l.queues → ((r : Reader) (q : Queue) → side_of d' q ≡ f r (side_of d q)) → IsDoneAt i d d' l l f
own_done i l d d' f low e =
    let s = some_at l.queues i low in
    record { queue = s.0; queue' = s.0; here = s.1; engine = sym (ap (λ (qs : List Queue). record l { queues = qs }) (set_same l.queues i s.0 s.1)); side = λ r. e r s.0 }

pub own_ok : {A B : Type 0} (result : Result A B) (i : ℕ) (l : Ledger) (d d' : SessionSlot) (f : Reader → Side → Side) → i < length l.queues → ((r : Reader) (q : Queue) → OnOk result (side_of d' q ≡ f r (side_of d q))) → OnOk result (IsDoneAt i d d' l l f)
own_ok (Ok x) i l d d' f low e = own_done i l d d' f low e
own_ok (Err x) i l d d' f low e = tt

pub own_still : (i : ℕ) (l : Ledger) (d d' : SessionSlot) → i < length l.queues → ((q : Queue) → side_of d' q ≡ side_of d q) → IsStillAt i d d' l l
own_still i l d d' low e =
    let s = some_at l.queues i low in
    record { queue = s.0; queue' = s.0; here = s.1; engine = sym (ap (λ (qs : List Queue). record l { queues = qs }) (set_same l.queues i s.0 s.1)); side = e s.0 }

pub own_err : {A B : Type 0} (result : Result A B) (i : ℕ) (l : Ledger) (d d' : SessionSlot) → i < length l.queues → ((q : Queue) → OnErr result (side_of d' q ≡ side_of d q)) → OnErr result (IsStillAt i d d' l l)
own_err (Ok x) i l d d' low e = tt
own_err (Err x) i l d d' low e = own_still i l d d' low e

-- an allocation failure alone
pub no_memory : {A : Type 0} (result : Result A EventFault) (refusal : Option EventFault) (x : SessionEvent) → takes_memory x ≡ true → refusal ≡ None → IfErr result (λ fault. fault ≡ NoMemory) → IfErr result (λ fault. IsCauseAlone refusal x fault)
no_memory (Ok y) refusal x may none f = tt
no_memory (Err fault) refusal x may none f = subst (λ (z : EventFault). IsCauseAlone refusal x z) (sym f) (may, none)

pub allowed_always : {A B : Type 0} (result : Result A B) (refusal : Option EventFault) → refusal ≡ None → OnOk result (refusal ≡ None)
allowed_always (Ok y) refusal e = e
allowed_always (Err y) refusal e = tt

-- the parts of the engine that no act at one side changes
pub same_engine : {A B : Type 0} (result : Result A B) (i : ℕ) (l l' : Ledger) (d d' : SessionSlot) (f : Reader → Side → Side) → OnOk result (IsDoneAt i d d' l l' f) → OnErr result (IsStillAt i d d' l l') → length l'.queues ≡ length l.queues
same_engine (Ok x) i l l' d d' f k e = ap (λ (m : Ledger). length m.queues) k.engine ∙ length-set l.queues i k.queue'
same_engine (Err x) i l l' d d' f k e = ap (λ (m : Ledger). length m.queues) e.engine ∙ length-set l.queues i e.queue'

pub same_ledger : {A B : Type 0} (result : Result A B) (i : ℕ) (l l' : Ledger) (d d' : SessionSlot) (f : Reader → Side → Side) → OnOk result (IsDoneAt i d d' l l' f) → OnErr result (IsStillAt i d d' l l') → l'.is_clean ≡ l.is_clean
same_ledger (Ok x) i l l' d d' f k e = ap (λ (m : Ledger). m.is_clean) k.engine
same_ledger (Err x) i l l' d d' f k e = ap (λ (m : Ledger). m.is_clean) e.engine

pub some_queue : (queues : List Queue) (i : ℕ) → i < length queues → Queue
some_queue queues i low = (some_at queues i low).0

same_slot : (slots : List SessionSlot) (i : ℕ) (a b : SessionSlot) → slice_get slots i ≡ Some a → slice_get slots i ≡ Some b → a ≡ b
same_slot slots i a b p q = cc

pub answer_of_slot : (r : Reader) (t : ℕ) (result : Result Step EventFault) (slots : List SessionSlot) (i : ℕ) (d d0 : SessionSlot) (q : Queue) (s : Side) → slice_get slots i ≡ Some d → slice_get slots i ≡ Some d0 → s ≡ side_of d0 q
    → IfOk result (λ answer. answer ≡ (step r d.session.state (max d.moment t)).1) → IfOk result (λ answer. answer ≡ (step r s.session (max s.moment t)).1)
answer_of_slot r t result slots i d d0 q s d_at d0_at is emitted =
    subst (λ (z : Side). IfOk result (λ answer. answer ≡ (step r z.session (max z.moment t)).1)) (ap (λ (x : SessionSlot). side_of x q) (same_slot slots i d d0 d_at d0_at) ∙ sym is) emitted

-- where an act at a slot may fail, it may at the side
pub asked_at_slot : {A : Type 0} (r : Reader) (x : SessionEvent) (result : Result A EventFault) (slots : List SessionSlot) (i : ℕ) (d : SessionSlot) (queues : List Queue) → slice_get slots i ≡ Some d
    → ((q : Queue) → OnErr result (MayFail r x (side_of d q))) → IfErr result (λ fault. fault ≡ NoMemory → (s : Side) → slice_get (sides_of slots queues) i ≡ Some s → MayFail r x s)
asked_at_slot r x (Ok y) slots i d queues d_at asked = tt
asked_at_slot r x (Err fault) slots i d queues d_at asked = λ is s s_at.
    let p = parts_at slots queues i s s_at in
    subst (λ (z : Side). MayFail r x z) (ap (λ (y : SessionSlot). side_of y p.1) (same_slot slots i d p.0 d_at p.2) ∙ sym p.4) (asked p.1)

-- a message that could not be answered for memory is in its seat
pub asked_of_take : (i t : ℕ) (result : Result (Unit {0}) EventFault) (slots slots' : List SessionSlot) (l l' : Ledger) (queues : List Queue) → IsTake i t slots slots' l l' result
    → IfErr result (λ fault. fault ≡ NoMemory → (s : Side) → slice_get (sides_of slots queues) i ≡ Some s → IsSome s.seat)
asked_of_take i t (Ok y) slots slots' l l' queues took = tt
asked_of_take i t (Err NoMemory) slots slots' l l' queues took = λ is s s_at.
    let p = parts_at slots queues i s s_at in
    let d = took.1.0 in
    let same = same_slot slots i d p.0 took.1.1 p.2 in
    subst (λ (seat : Option Item). IsSome seat) (sym took.1.2 ∙ ap (λ (x : SessionSlot). x.seat) same ∙ ap (λ (z : Side). z.seat) (sym p.4)) refl
asked_of_take i t (Err (Behind j)) slots slots' l l' queues took = λ is. cc
asked_of_take i t (Err TrailRefused) slots slots' l l' queues took = λ is. cc
asked_of_take i t (Err Due) slots slots' l l' queues took = λ is. cc
asked_of_take i t (Err (Down j)) slots slots' l l' queues took = λ is. cc

-- a side that could not enter for memory is due
pub asked_of_tick : (t : ℕ) (result : Result Bool EventFault) (l l' : Ledger) → IsTick t l l' result → IfErr result (λ fault. fault ≡ NoMemory → IsDue l.stands t true)
asked_of_tick t (Ok b) l l' tick = tt
asked_of_tick t (Err fault) l l' tick = λ is. tick.due

pub wire_of_slot : (wire : List ℕ) (slots : List SessionSlot) (i : ℕ) (d d0 : SessionSlot) (q : Queue) (s : Side) → slice_get slots i ≡ Some d → slice_get slots i ≡ Some d0 → s ≡ side_of d0 q → wire ≡ d.session.state.wire → wire ≡ s.session.wire
wire_of_slot wire slots i d d0 q s d_at d0_at is taken = taken ∙ ap (λ (z : Side). z.session.wire) (ap (λ (x : SessionSlot). side_of x q) (same_slot slots i d d0 d_at d0_at) ∙ sym is)

-- the front is in the empty seat
pub delivered_by : (i : ℕ) (l l' : Ledger) (d : SessionSlot) (front : Option Outgoing) → d.reply ≡ None → IsFront i l l' front → IsDoneAt i d (record d { reply = front }) l l' (λ r. does r Delivers)
delivered_by i l l' d None none f = record {
  queue = f.0;
  queue' = f.1;
  here = f.2;
  engine = f.3;
  side = λ r. (λ j. record (side_of d f.0) { reply = sym none j; queue = (f.5 ∙ sym f.4) j; is_cut = f.6 j }) ∙ sym (λ j. delivered (side_of d f.0) (none j) (f.4 j));
}
delivered_by i l l' d (Some x) none f = record {
  queue = f.0;
  queue' = f.1;
  here = f.2;
  engine = f.3;
  side = λ r. (λ j. record (side_of d f.0) { reply = Some x; queue = f.1.waiting.items; is_cut = f.5 j }) ∙ sym (λ j. delivered (side_of d f.0) (none j) (f.4 j));
}

-- a full seat stays
pub delivered_not : (i : ℕ) (l : Ledger) (d : SessionSlot) (x : Outgoing) → i < length l.queues → d.reply ≡ Some x → IsDoneAt i d d l l (λ r. does r Delivers)
delivered_not i l d x low full = own_done i l d d (λ r. does r Delivers) low (λ r q. sym (ap (λ (o : Option Outgoing). delivered (side_of d q) o q.waiting.items) full))

pub is_full : (o : Option Outgoing) → is_some o ≡ true → (x : Outgoing) × (o ≡ Some x)
is_full None e = absurd (cc)
is_full (Some x) e = (x, refl)

pub is_empty : (o : Option Outgoing) → is_some o ≡ false → o ≡ None
is_empty None e = refl
is_empty (Some x) e = absurd (cc)
