-- The effect of the engine, by the sides.
use Rattle.std.proofs.Common.{◌≡◌, ℕ, zero, suc, ◌+◌, ◌<◌, Bool, true, false, List, [], ◌∷◌, ◌++◌, length, refl, sym, ap, ◌∙◌, arith, subst, Some, None}
use Rattle.std.specs.Prelude.{slice_get, if◌then◌else◌}
use Rattle.venue_rules.specs.declared.replies.Reply.{Reply}
use Rattle.venue_rules.specs.declared.trail.EventFault.{EventFault}
use Rattle.venue_rules.specs.declared.trail.EventFault.TheVariants.{Behind, Due, Down, NoMemory, TrailRefused}
use Rattle.venue_rules.specs.Run.{Input}
use Rattle.outbound_queue.specs.declared.queue.Queue.{Queue}
use Rattle.venue_engine.specs.Ledger.{Ledger}
use Rattle.venue_engine.specs.Queued.{AreQueued, AreSameQueues, IsFirstBehind, NoneBehind}
use Rattle.venue_engine.specs.Step.{IsAnswered, IsRefused}
use Rattle.venue_world.specs.declared.session_slot.SessionSlot.{SessionSlot}
use Rattle.venue_world.specs.Answering.{IsHindered, IsPosted}
use Rattle.venue_world.specs.Side.{Side}
use Rattle.venue_world.specs.Slots.{side_of, sides_of}
use Rattle.venue_world.specs.World.{first_behind, is_behind, posted}
use Rattle.venue_world.proofs.Lists.{heard_by, side_posted}
use Rattle.venue_world.proofs.Places.{all_same, length-posted, length-sides, parts_at}

same_slot : (slots : List SessionSlot) (i : ℕ) (a b : SessionSlot) → slice_get slots i ≡ Some a → slice_get slots i ≡ Some b → a ≡ b
same_slot slots i a b p q = cc

same_side : (sides : List Side) (i : ℕ) (a b : Side) → slice_get sides i ≡ Some a → slice_get sides i ≡ Some b → a ≡ b
same_side sides i a b p q = cc

-- the same waits at each side
pub still_sides : (slots : List SessionSlot) (qs qs' : List Queue) → length slots ≡ length qs → AreSameQueues qs qs' → sides_of slots qs' ≡ sides_of slots qs
still_sides slots qs qs' long same = all_same (sides_of slots qs') (sides_of slots qs) (length-sides slots qs' (long ∙ sym same.0) ∙ sym (length-sides slots qs long)) each
  where
    each : (i : ℕ) (x y : Side) → slice_get (sides_of slots qs') i ≡ Some x → slice_get (sides_of slots qs) i ≡ Some y → x ≡ y
    each i x y x_at y_at =
        let a = parts_at slots qs' i x x_at in
        let b = parts_at slots qs i y y_at in
        let d = same_slot slots i a.0 b.0 a.2 b.2 in
        let w = same.1 i b.1 a.1 b.3 a.3 in
        a.4 ∙ (λ j. record (side_of (d j) b.1) { queue = w.0 j; is_cut = w.1 j }) ∙ sym b.4

-- the replies are queued at each side
pub posted_sides : (replies : List Reply) (slots : List SessionSlot) (qs qs' : List Queue) → length slots ≡ length qs → AreQueued replies qs qs' → sides_of slots qs' ≡ posted replies (sides_of slots qs)
posted_sides replies slots qs qs' long queued =
    all_same (sides_of slots qs') (posted replies (sides_of slots qs)) (length-sides slots qs' (long ∙ sym queued.0) ∙ sym (length-posted replies (sides_of slots qs) ∙ length-sides slots qs long)) each
  where
    each : (i : ℕ) (x y : Side) → slice_get (sides_of slots qs') i ≡ Some x → slice_get (posted replies (sides_of slots qs)) i ≡ Some y → x ≡ y
    each i x y x_at y_at =
        let a = parts_at slots qs' i x x_at in
        let u = side_posted replies (sides_of slots qs) i y y_at in
        let b = parts_at slots qs i u.0 u.1 in
        let d = same_slot slots i a.0 b.0 a.2 b.2 in
        let w = queued.1 i b.1 a.1 b.3 a.3 in
        a.4 ∙ (λ j. record (side_of (d j) b.1) { queue = w.0 j; is_cut = w.1 j }) ∙ sym (u.2 ∙ ap (heard_by i replies) b.4)

-- nobody is behind
nobody_from : (replies : List Reply) (sides : List Side) (k : ℕ) → ((j : ℕ) (s : Side) → slice_get sides j ≡ Some s → is_behind (k + j) replies s ≡ false) → first_behind k replies sides ≡ None
nobody_from replies [] k f = refl
nobody_from replies (s ∷ sides) k f =
    let here : is_behind k replies s ≡ false = subst (λ (n : ℕ). is_behind n replies s ≡ false) (let e : k + 0 ≡ k = omega arith in e) (f 0 s refl) in
    ap (λ (b : Bool). if b then Some k else first_behind (k + 1) replies sides) here
    ∙ nobody_from replies sides (k + 1) (λ j z z_at. subst (λ (n : ℕ). is_behind n replies z ≡ false) (let e : k + suc j ≡ k + 1 + j = omega arith in e) (f (suc j) z z_at))

pub nobody_behind : (replies : List Reply) (slots : List SessionSlot) (qs : List Queue) → NoneBehind replies qs → first_behind 0 replies (sides_of slots qs) ≡ None
nobody_behind replies slots qs none = nobody_from replies (sides_of slots qs) 0 each
  where
    each : (j : ℕ) (s : Side) → slice_get (sides_of slots qs) j ≡ Some s → is_behind (0 + j) replies s ≡ false
    each j s s_at =
        let b = parts_at slots qs j s s_at in
        subst (λ (n : ℕ). is_behind n replies s ≡ false) (let e : j ≡ 0 + j = omega arith in e) (ap (is_behind j replies) b.4 ∙ none j b.1 b.3)

-- or somebody is, and one is the first
first_from : (replies : List Reply) (sides : List Side) (k place : ℕ) → place < length sides → ((s : Side) → slice_get sides place ≡ Some s → is_behind (k + place) replies s ≡ true) → ((j : ℕ) (s : Side) → j < place → slice_get sides j ≡ Some s → is_behind (k + j) replies s ≡ false)
    → first_behind k replies sides ≡ Some (k + place)
first_from replies [] k place low here before = absurd (omega arith)
first_from replies (s ∷ sides) k zero low here before =
    ap (λ (b : Bool). if b then Some k else first_behind (k + 1) replies sides) (subst (λ (n : ℕ). is_behind n replies s ≡ true) (let e : k + 0 ≡ k = omega arith in e) (here s refl)) ∙ ap Some (let e : k ≡ k + 0 = omega arith in e)
first_from replies (s ∷ sides) k (suc place) low here before =
    ap (λ (b : Bool). if b then Some k else first_behind (k + 1) replies sides) (subst (λ (n : ℕ). is_behind n replies s ≡ false) (let e : k + 0 ≡ k = omega arith in e) (before 0 s (omega arith) refl))
    ∙ first_from replies sides (k + 1) place (omega arith)
    (λ z z_at. subst (λ (n : ℕ). is_behind n replies z ≡ true) (let e : k + suc place ≡ k + 1 + place = omega arith in e) (here z z_at))
    (λ j z low' z_at. subst (λ (n : ℕ). is_behind n replies z ≡ false) (let e : k + suc j ≡ k + 1 + j = omega arith in e) (before (suc j) z (omega arith) z_at))
    ∙ ap Some (let e : k + 1 + place ≡ k + suc place = omega arith in e)

pub first_is_behind : (replies : List Reply) (slots : List SessionSlot) (qs : List Queue) (who : ℕ) → length slots ≡ length qs → IsFirstBehind replies qs who → first_behind 0 replies (sides_of slots qs) ≡ Some who
first_is_behind replies slots qs who long first =
    first_from replies (sides_of slots qs) 0 who (let l = length-sides slots qs long in omega (arith, l, long, first.1))
    (λ s s_at. (let b = parts_at slots qs who s s_at in subst (λ (n : ℕ). is_behind n replies s ≡ true) (let e : who ≡ 0 + who = omega arith in e) (ap (is_behind who replies) b.4 ∙ first.0 b.1 b.3)))
    (λ j s low s_at. (let b = parts_at slots qs j s s_at in subst (λ (n : ℕ). is_behind n replies s ≡ false) (let e : j ≡ 0 + j = omega arith in e) (ap (is_behind j replies) b.4 ∙ first.2 j b.1 low b.3)))
    ∙ ap Some (let e : 0 + who ≡ who = omega arith in e)

pub posted_by : (item : Input) (l l' : Ledger) (slots : List SessionSlot) → length slots ≡ length l.queues → IsAnswered item l l' → IsPosted item l.market l.stands l'.stands (sides_of slots l.queues) (sides_of slots l'.queues)
posted_by item l l' slots long a = record {
  answer = a.answer;
  answers = a.answers;
  goes = a.goes;
  nobody_behind = nobody_behind a.answer.replies slots l.queues a.none_behind;
  queued = posted_sides a.answer.replies slots l.queues l'.queues long a.queued;
}

pub hindered_by : (item : Input) (l l' : Ledger) (slots : List SessionSlot) (fault : EventFault) → length slots ≡ length l.queues → IsRefused item l l' fault → IsHindered item l.market l.stands (sides_of slots l.queues) l.refused l'.refused fault
hindered_by item l l' slots (Behind who) long h = (record { answer = h.0.answer; answers = h.0.answers; first = first_is_behind h.0.answer.replies slots l.queues who long h.0.first }, h.1)
hindered_by item l l' slots TrailRefused long h = (record { answer = h.0.answer; answers = h.0.answers; first = nobody_behind h.0.answer.replies slots l.queues h.0.none }, h.1)
hindered_by item l l' slots NoMemory long h = h
hindered_by item l l' slots Due long h = absurd h
hindered_by item l l' slots (Down who) long h = absurd h
