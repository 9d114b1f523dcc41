-- Capacity at the queues, and a write to one of them.
use Rattle.std.proofs.Common.{◌≡◌, ℕ, zero, suc, ◌+◌, ◌≤◌, ◌<◌, List, [], ◌∷◌, ◌++◌, length, set, take, get_or, refl, sym, ap, ◌∙◌, arith, subst, Option, Some, None}
use Rattle.std.specs.Prelude.{slice_get}
use Rattle.std.specs.VecDeque.{deque_len, deque_capacity}
use Rattle.venue_rules.specs.declared.replies.Reply.{Reply}
use Rattle.venue_rules.specs.Messages.{message}
use Rattle.outbound_queue.specs.declared.queue.Queue.{Queue}
use Rattle.venue_engine.specs.declared.outbox.Addressed.{Addressed}
use Rattle.venue_engine.specs.Outbox.{Waiting}
use Rattle.venue_engine.specs.Outbox.{at, posted, emitted}
use Rattle.venue_engine.specs.Outbox.{HaveCapacity, HasCapacity, all_addressed, places_of, recipients, waits, all_waits, enqueued}

-- one queue is written
pub written : (queues : List Queue) (i : ℕ) (f : Waiting → Waiting) (d d' : Queue) → i < length queues → d ≡ get_or queues i d → waits d' ≡ f (waits d) → all_waits (set queues i d') ≡ at i f (all_waits queues)
written [] i f d d' low is e = absurd (omega arith)
written (x ∷ queues) zero f d d' low is e = ap (λ (s : Waiting). s ∷ all_waits queues) (e ∙ ap (λ (y : Queue). f (waits y)) is)
written (x ∷ queues) (suc i) f d d' low is e = ap (λ (ss : List Waiting). waits x ∷ ss) (written queues i f d d' (omega arith) is e)

pub past_end : (ws : List Waiting) (i : ℕ) (f : Waiting → Waiting) → length ws ≤ i → at i f ws ≡ ws
past_end [] i f high = refl
past_end (s ∷ ws) zero f high = absurd (omega arith)
past_end (s ∷ ws) (suc i) f high = ap (λ (ss : List Waiting). s ∷ ss) (past_end ws i f (omega arith))

pub length-ws : (queues : List Queue) → length (all_waits queues) ≡ length queues
length-ws [] = refl
length-ws (d ∷ queues) = ap suc (length-ws queues)

pub at_same : (ws : List Waiting) (i : ℕ) → at i (λ s. s) ws ≡ ws
at_same [] i = refl
at_same (s ∷ ws) zero = refl
at_same (s ∷ ws) (suc i) = ap (λ (ss : List Waiting). s ∷ ss) (at_same ws i)

pub length-at : (ws : List Waiting) (i : ℕ) (f : Waiting → Waiting) → length (at i f ws) ≡ length ws
length-at [] i f = refl
length-at (s ∷ ws) zero f = refl
length-at (s ∷ ws) (suc i) f = ap suc (length-at ws i f)

pub length-posted : (replies : List Reply) (ws : List Waiting) → length (posted replies ws) ≡ length ws
length-posted [] ws = refl
length-posted (x ∷ rest) ws = length-posted rest (at x.to (emitted (message x.what)) ws) ∙ length-at ws x.to (emitted (message x.what))

no_queue : (queues : List Queue) (i n : ℕ) → length queues ≤ i → HasCapacity n (slice_get queues i)
no_queue [] i n high = tt
no_queue (d ∷ queues) zero n high = absurd (omega arith)
no_queue (d ∷ queues) (suc i) n high = no_queue queues i n (omega arith)

pub none_there : (queues : List Queue) (i n : ℕ) → length queues ≤ i → HasCapacity n (slice_get queues i)
none_there = no_queue

-- what holds at the one that is written, and at the others, holds at each
pub capacity_set : (queues : List Queue) (i j n m : ℕ) (d d' : Queue) → i < length queues → d ≡ get_or queues i d → n ≤ m → (deque_len d.waiting + m ≤ deque_capacity d.waiting → deque_len d'.waiting + n ≤ deque_capacity d'.waiting) → HasCapacity m (slice_get queues j) → HasCapacity n (slice_get (set queues i d') j)
capacity_set [] i j n m d d' low is less f capacity = absurd (omega arith)
capacity_set (x ∷ queues) zero zero n m d d' low is less f capacity = f (subst (λ (y : Queue). deque_len y.waiting + m ≤ deque_capacity y.waiting) (sym is) capacity)
capacity_set (x ∷ queues) zero (suc j) n m d d' low is less f capacity = fewer queues j capacity
  where
    fewer : (ds : List Queue) (j : ℕ) → HasCapacity m (slice_get ds j) → HasCapacity n (slice_get ds j)
    fewer [] j capacity = tt
    fewer (y ∷ ds) zero capacity = omega (arith, capacity, less)
    fewer (y ∷ ds) (suc j) capacity = fewer ds j capacity
capacity_set (x ∷ queues) (suc i) zero n m d d' low is less f capacity = omega (arith, capacity, less)
capacity_set (x ∷ queues) (suc i) (suc j) n m d d' low is less f capacity = capacity_set queues i j n m d d' (omega arith) is less f capacity

pub capacities_set : (places : List ℕ) (queues : List Queue) (i n m : ℕ) (d d' : Queue) → i < length queues → d ≡ get_or queues i d → n ≤ m → (deque_len d.waiting + m ≤ deque_capacity d.waiting → deque_len d'.waiting + n ≤ deque_capacity d'.waiting) → HaveCapacity m queues places → HaveCapacity n (set queues i d') places
capacities_set [] queues i n m d d' low is less f capacities = tt
capacities_set (j ∷ places) queues i n m d d' low is less f capacities = (capacity_set queues i j n m d d' low is less f capacities.0, capacities_set places queues i n m d d' low is less f capacities.1)

fewer_at : (d : Option Queue) (n m : ℕ) → n ≤ m → HasCapacity m d → HasCapacity n d
fewer_at None n m less capacity = tt
fewer_at (Some d) n m less capacity = omega (arith, capacity, less)

pub capacity_fewer : (places : List ℕ) (queues : List Queue) (n m : ℕ) → n ≤ m → HaveCapacity m queues places → HaveCapacity n queues places
capacity_fewer [] queues n m less capacities = tt
capacity_fewer (j ∷ places) queues n m less capacities = (fewer_at (slice_get queues j) n m less capacities.0, capacity_fewer places queues n m less capacities.1)

pub capacity_more : (places : List ℕ) (queues : List Queue) (n j : ℕ) → HaveCapacity n queues places → HasCapacity n (slice_get queues j) → HaveCapacity n queues (places ++ j ∷ [])
capacity_more [] queues n j capacities capacity = (capacity, tt)
capacity_more (k ∷ places) queues n j capacities capacity = (capacities.0, capacity_more places queues n j capacities.1 capacity)

pub capacity_here : (queues : List Queue) (i n : ℕ) (d : Queue) → i < length queues → d ≡ get_or queues i d → HasCapacity n (slice_get queues i) → deque_len d.waiting + n ≤ deque_capacity d.waiting
capacity_here [] i n d low is capacity = absurd (omega arith)
capacity_here (x ∷ queues) zero n d low is capacity = subst (λ (y : Queue). deque_len y.waiting + n ≤ deque_capacity y.waiting) (sym is) capacity
capacity_here (x ∷ queues) (suc i) n d low is capacity = capacity_here queues i n d (omega arith) is capacity

pub capacity_written : (queues : List Queue) (i n : ℕ) (d : Queue) → i < length queues → deque_len d.waiting + n ≤ deque_capacity d.waiting → HasCapacity n (slice_get (set queues i d) i)
capacity_written [] i n d low capacity = absurd (omega arith)
capacity_written (x ∷ queues) zero n d low capacity = capacity
capacity_written (x ∷ queues) (suc i) n d low capacity = capacity_written queues i n d (omega arith) capacity

-- the messages are queued as the replies are
pub all_enqueued : (replies : List Reply) (ws : List Waiting) → enqueued (all_addressed replies) ws ≡ posted replies ws
all_enqueued [] ws = refl
all_enqueued (r ∷ replies) ws = all_enqueued replies (at r.to (emitted (message r.what)) ws)

recipients_suc : (rs : List Reply) (k : ℕ) (x : Reply) → k < length rs → x ≡ get_or rs k x → recipients (take (suc k) rs) ≡ recipients (take k rs) ++ x.to ∷ []
recipients_suc [] k x low is = absurd (omega arith)
recipients_suc (r ∷ rs) zero x low is = ap (λ (y : Reply). y.to ∷ []) (sym is)
recipients_suc (r ∷ rs) (suc k) x low is = ap (λ (l : List ℕ). r.to ∷ l) (recipients_suc rs k x (omega arith) is)

pub recipients_more : (rs : List Reply) (k : ℕ) (x : Reply) → k < length rs → x ≡ get_or rs k x → recipients (take (k + 1) rs) ≡ recipients (take k rs) ++ x.to ∷ []
recipients_more rs k x low is = ap (λ (n : ℕ). recipients (take n rs)) (let e : k + 1 ≡ suc k = omega arith in e) ∙ recipients_suc rs k x low is

pub length-places : (rs : List Reply) → places_of (all_addressed rs) ≡ recipients rs
length-places [] = refl
length-places (r ∷ rs) = ap (λ (l : List ℕ). r.to ∷ l) (length-places rs)

pub length-addressed : (rs : List Reply) → length (all_addressed rs) ≡ length rs
length-addressed [] = refl
length-addressed (r ∷ rs) = ap suc (length-addressed rs)

pub capacity_for : (made : List Addressed) (rs rs' : List Reply) (answer : List Reply) (queues : List Queue) → made ≡ all_addressed rs → rs ≡ answer → rs' ≡ answer → HaveCapacity (length rs') queues (recipients rs') → HaveCapacity (length made) queues (places_of made)
capacity_for made rs rs' answer queues is from from' capacity =
    let as_addressed : made ≡ all_addressed answer = is ∙ ap all_addressed from in
    let here : HaveCapacity (length answer) queues (recipients answer) = subst (λ (l : List Reply). HaveCapacity (length l) queues (recipients l)) from' capacity in
    let places : HaveCapacity (length answer) queues (places_of (all_addressed answer)) = subst (λ (l : List ℕ). HaveCapacity (length answer) queues l) (sym (length-places answer)) here in
    let count : HaveCapacity (length (all_addressed answer)) queues (places_of (all_addressed answer)) = subst (λ (n : ℕ). HaveCapacity n queues (places_of (all_addressed answer))) (sym (length-addressed answer)) places in
    subst (λ (l : List Addressed). HaveCapacity (length l) queues (places_of l)) (sym as_addressed) count

pub queued_as : (made : List Addressed) (rs answer : List Reply) (ws mid ws' : List Waiting) → made ≡ all_addressed rs → rs ≡ answer → mid ≡ ws → ws' ≡ enqueued made mid → ws' ≡ posted answer ws
queued_as made rs answer ws mid ws' is from same e =
    e ∙ ap (λ (l : List Addressed). enqueued l mid) (is ∙ ap all_addressed from) ∙ all_enqueued answer mid ∙ ap (posted answer) same
