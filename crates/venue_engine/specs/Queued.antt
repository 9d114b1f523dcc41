-- The queues, and the replies of an input added to them.
use Rattle.std.specs.Prelude.{◌≡◌, ℕ, ◌≤◌, ◌<◌, Bool, true, false, List, [], ◌∷◌, ◌++◌, length, slice_get, Option, Some, None}
use Rattle.std.specs.VecDeque.{deque_len, deque_capacity}
use Rattle.venue_rules.specs.declared.replies.Reply.{Reply}
use Rattle.venue_rules.specs.MoreInputs.{said_to}
use Rattle.outbound_queue.specs.Owed.{added, is_behind, most_queued}
use Rattle.outbound_queue.specs.declared.outgoing.Outgoing.{Outgoing}
use Rattle.outbound_queue.specs.declared.queue.Queue.{Queue}

-- no more than 65,536 replies wait in a queue
abbrev pub AreFew : List Queue → Type 0
AreFew queues = (k : ℕ) (q : Queue) → slice_get queues k ≡ Some q → length q.waiting.items ≤ most_queued

abbrev pub AreEmpty : List Queue → Type 0
AreEmpty queues = (k : ℕ) (q : Queue) → slice_get queues k ≡ Some q → (q.waiting.items ≡ []) × (q.is_cut ≡ false)

-- with these replies no queue passes the limit
abbrev pub NoneBehind : List Reply → List Queue → Type 0
NoneBehind replies queues = (k : ℕ) (q : Queue) → slice_get queues k ≡ Some q → is_behind k replies q.is_cut (length q.waiting.items) ≡ false

-- with these replies the queue of this participant passes the limit, and of none before it
abbrev pub IsFirstBehind : List Reply → List Queue → ℕ → Type 0
IsFirstBehind replies queues who =
    ((q : Queue) → slice_get queues who ≡ Some q → is_behind who replies q.is_cut (length q.waiting.items) ≡ true) × (who < length queues)
    × ((k : ℕ) (q : Queue) → k < who → slice_get queues k ≡ Some q → is_behind k replies q.is_cut (length q.waiting.items) ≡ false)

-- the same waits, whatever the capacity
abbrev pub AreSameQueues : List Queue → List Queue → Type 0
AreSameQueues old new = (length new ≡ length old) × ((k : ℕ) (o n : Queue) → slice_get old k ≡ Some o → slice_get new k ≡ Some n → (n.waiting.items ≡ o.waiting.items) × (n.is_cut ≡ o.is_cut))

-- the replies to each participant are at the end of its queue, in order, unless it is cut
abbrev pub AreQueued : List Reply → List Queue → List Queue → Type 0
AreQueued replies old new = (length new ≡ length old)
    × ((k : ℕ) (o n : Queue) → slice_get old k ≡ Some o → slice_get new k ≡ Some n → (n.waiting.items ≡ o.waiting.items ++ added o.is_cut (said_to k replies)) × (n.is_cut ≡ o.is_cut))

-- a participant's queue is the sentinel alone; one that was cut stays
abbrev pub IsCut : Queue → Queue → Bool → Type 0
IsCut q q' true = (q'.waiting.items ≡ q.waiting.items) × (q'.is_cut ≡ true)
IsCut q q' false = (q'.waiting.items ≡ Outgoing.Cut ∷ []) × (q'.is_cut ≡ true)

-- there is capacity for one more in this queue, and the limit allows it
abbrev pub HasPlace : Queue → Type 0
HasPlace q = (deque_len q.waiting < deque_capacity q.waiting) × (length q.waiting.items < most_queued)

-- the front left a queue, or the queue is empty
abbrev pub IsPopped : Queue → Queue → Option Outgoing → Type 0
IsPopped q q' None = (q.waiting.items ≡ []) × (q'.waiting.items ≡ []) × (q'.is_cut ≡ q.is_cut)
IsPopped q q' (Some x) = (q.waiting.items ≡ x ∷ q'.waiting.items) × (q'.is_cut ≡ q.is_cut) × (deque_len q'.waiting < deque_capacity q'.waiting)
