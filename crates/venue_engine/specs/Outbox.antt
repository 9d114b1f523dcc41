-- The queues as replies are added to them one after another.
use Rattle.std.specs.Prelude.{ℕ, suc, zero, ◌+◌, ◌≤◌, Bool, true, ◌||◌, nat_le, List, [], ◌∷◌, ◌++◌, length, map, Option, Some, None, slice_get, if◌then◌else◌}
use Rattle.std.specs.VecDeque.{deque_len, deque_capacity}
use Rattle.fix_dictionary.specs.declared.messages.App.{App}
use Rattle.venue_rules.specs.declared.replies.Reply.{Reply}
use Rattle.venue_rules.specs.Messages.{message}
use Rattle.outbound_queue.specs.Owed.{added, is_behind as puts_behind, most_queued}
use Rattle.outbound_queue.specs.declared.outgoing.Outgoing.{Outgoing}
use Rattle.outbound_queue.specs.declared.queue.Queue.{Queue}
use Rattle.venue_engine.specs.declared.outbox.Addressed.{Addressed}

-- a participant's queue, and whether it is cut
pub record Waiting : Type 0 where
  pub items : List Outgoing
  pub is_cut : Bool

abbrev pub waits : Queue → Waiting
waits q = record { items = q.waiting.items; is_cut = q.is_cut }

abbrev pub all_waits : List Queue → List Waiting
all_waits queues = map waits queues

-- a function applied at one place
abbrev pub at : ℕ → (Waiting → Waiting) → List Waiting → List Waiting
at i f [] = []
at zero f (w ∷ ws) = f w ∷ ws
at (suc i) f (w ∷ ws) = w ∷ at i f ws

-- a message is at the end of the queue, unless the participant is cut
abbrev pub emitted : App → Waiting → Waiting
emitted app w = record w { items = w.items ++ added w.is_cut (app ∷ []) }

-- the replies are queued one after another, each for its participant
abbrev pub posted : List Reply → List Waiting → List Waiting
posted [] ws = ws
posted (r ∷ replies) ws = posted replies (at r.to (emitted (message r.what)) ws)

abbrev pub is_behind : ℕ → List Reply → Waiting → Bool
is_behind k replies w = puts_behind k replies w.is_cut (length w.items)

-- the first participant behind, where this list begins at participant k
abbrev pub first_behind : ℕ → List Reply → List Waiting → Option ℕ
first_behind k replies [] = None
first_behind k replies (w ∷ ws) = if is_behind k replies w then Some k else first_behind (k + 1) replies ws

-- this many further replies are within the limit at this place, if it exists
abbrev pub fits : ℕ → Option Waiting → Bool
fits n None = true
fits n (Some w) = w.is_cut || nat_le (length w.items + n) most_queued

-- a reply's message, with its participant
abbrev pub addressed : Reply → Addressed
addressed r = record { to = r.to; app = message r.what }

abbrev pub all_addressed : List Reply → List Addressed
all_addressed replies = map addressed replies

-- these are queued one after another
abbrev pub enqueued : List Addressed → List Waiting → List Waiting
enqueued [] ws = ws
enqueued (a ∷ rest) ws = enqueued rest (at a.to (emitted a.app) ws)

-- capacity for this many further replies at this queue, if it exists
abbrev pub HasCapacity : ℕ → Option Queue → Type 0
HasCapacity n None = Unit {0}
HasCapacity n (Some q) = deque_len q.waiting + n ≤ deque_capacity q.waiting

-- and at each of these
abbrev pub HaveCapacity : ℕ → List Queue → List ℕ → Type 0
HaveCapacity n queues [] = Unit {0}
HaveCapacity n queues (to ∷ places) = HasCapacity n (slice_get queues to) × HaveCapacity n queues places

abbrev pub places_of : List Addressed → List ℕ
places_of messages = map (λ (a : Addressed). a.to) messages

abbrev pub recipients : List Reply → List ℕ
recipients replies = map (λ (r : Reply). r.to) replies
