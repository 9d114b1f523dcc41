-- The effect of each call of an engine: the answer to an input, and the causes of a refusal.
use Rattle.std.specs.Prelude.{◌≡◌, ℕ, ◌+◌, Bool, true, false, [], ◌∷◌, ◌++◌, length, set, slice_get, Option, None, Some, Ok, Err, is_some}
use Rattle.std.specs.declared.result.Result.{Result}
use Rattle.venue_rules.specs.declared.trail.EventFault.{EventFault}
use Rattle.venue_rules.specs.declared.trail.EventFault.TheVariants.{Behind, TrailRefused, Down, Due, NoMemory}
use Rattle.venue_rules.specs.Kept.{IsRisen}
use Rattle.venue_rules.specs.Delay.{due}
use Rattle.venue_rules.specs.Market.{Market}
use Rattle.venue_rules.specs.Facts.{History}
use Rattle.venue_rules.specs.Answer.{Answer}
use Rattle.venue_rules.specs.Run.{Input, Tick, after, answer_input, row}
use Rattle.venue_core.specs.State.{VenueFacts}
use Rattle.venue_core.specs.VenueFacts.{IsStanding}
use Rattle.outbound_queue.specs.declared.outgoing.Outgoing.{Outgoing}
use Rattle.outbound_queue.specs.declared.queue.Queue.{Queue}
use Rattle.venue_engine.specs.Queued.{AreQueued, AreSameQueues, HasPlace, IsCut, IsFirstBehind, NoneBehind}
use Rattle.venue_engine.specs.Ledger.{Ledger}

-- a held side is due at a moment, or none is, for every history that the venue may be at
abbrev pub IsDue : VenueFacts → ℕ → Bool → Type 0
IsDue p t b = (h : History) → IsStanding p h → is_some (due h.facts t) ≡ b

-- this is the answer of the rules to an input, for every history that the venue may be at
abbrev pub IsAnswerAt : Market → VenueFacts → Input → Answer → Type 0
IsAnswerAt m p i a = (h : History) → IsStanding p h → a ≡ answer_input m h i

-- an input was answered: no queue would pass the limit; the venue is at the history after the answer, its row is the
-- next one, and its replies are at the ends of the queues
pub record IsAnswered (i : Input) (old new : Ledger) : Type 0 where
  pub answer : Answer
  pub answers : IsAnswerAt old.market old.stands i answer
  pub none_behind : NoneBehind answer.replies old.queues
  pub goes : (h : History) → IsStanding old.stands h → IsStanding new.stands (after h answer)
  pub recorded : new.is_clean ≡ true → new.rows ≡ old.rows ++ row (length old.rows + 1) i ∷ []
  pub counted : new.count ≡ old.count + 1
  pub queued : AreQueued answer.replies old.queues new.queues

-- the venue's state, the rows and the queues are as before
pub record IsUnanswered (old new : Ledger) : Type 0 where
  pub stands : new.stands ≡ old.stands
  pub rows : new.is_clean ≡ true → new.rows ≡ old.rows
  pub count : new.count ≡ old.count
  pub queues : AreSameQueues old.queues new.queues

-- the replies to an input would leave a participant behind, and none before it
pub record WouldBeBehind (i : Input) (old : Ledger) (who : ℕ) : Type 0 where
  pub answer : Answer
  pub answers : IsAnswerAt old.market old.stands i answer
  pub first : IsFirstBehind answer.replies old.queues who

-- they would leave none behind
pub record WouldLeaveNone (i : Input) (old : Ledger) : Type 0 where
  pub answer : Answer
  pub answers : IsAnswerAt old.market old.stands i answer
  pub none : NoneBehind answer.replies old.queues

-- why an input was refused: the first participant that would be behind; a refusal of the store in this call, whose
-- count rose, where none would be; or an allocation failure (the count rises for no other cause)
abbrev pub IsRefused : Input → Ledger → Ledger → EventFault → Type 0
IsRefused i old new (Behind who) = WouldBeBehind i old who × (new.refused ≡ old.refused)
IsRefused i old new TrailRefused = WouldLeaveNone i old × IsRisen old.refused new.refused
IsRefused i old new NoMemory = new.refused ≡ old.refused
IsRefused i old new Due = ⊥
IsRefused i old new (Down who) = ⊥

-- all is as before but the last moment
pub record IsIdle (t : ℕ) (old new : Ledger) : Type 0 where
  pub stands : new.stands ≡ old.stands
  pub rows : new.rows ≡ old.rows
  pub count : new.count ≡ old.count
  pub clean : new.is_clean ≡ old.is_clean
  pub queues : new.queues ≡ old.queues
  pub last : new.last ≡ t
  pub refused : new.refused ≡ old.refused

-- an input was answered where a held side was due, or where none was; its moment is the last
pub record IsDone (i : Input) (t : ℕ) (is_due : Bool) (old new : Ledger) : Type 0 where
  pub due : IsDue old.stands t is_due
  pub answered : IsAnswered i old new
  pub last : new.last ≡ t
  pub refused : new.refused ≡ old.refused

-- it was not answered, for a cause
pub record IsUndone (i : Input) (t : ℕ) (is_due : Bool) (fault : EventFault) (old new : Ledger) : Type 0 where
  pub due : IsDue old.stands t is_due
  pub unanswered : IsUnanswered old new
  pub last : new.last ≡ old.last
  pub refused : IsRefused i old new fault

-- one call of `answer`: the message was answered, where no held side is due; or one is, and nothing changed; or the
-- message was refused
abbrev pub HasAnswered : Input → ℕ → Ledger → Ledger → Result (Unit {0}) EventFault → Type 0
HasAnswered i t old new (Ok u) = IsDone i t false old new
HasAnswered i t old new (Err Due) = IsDue old.stands t true × (new ≡ old)
HasAnswered i t old new (Err (Behind who)) = IsUndone i t false (Behind who) old new
HasAnswered i t old new (Err TrailRefused) = IsUndone i t false TrailRefused old new
HasAnswered i t old new (Err NoMemory) = IsUndone i t false NoMemory old new
HasAnswered i t old new (Err (Down who)) = ⊥

-- the held side due entered
abbrev pub IsEntered : ℕ → Ledger → Ledger → Type 0
IsEntered t old new = IsDone (Tick t) t true old new

-- the held side due did not enter
abbrev pub IsHeldBack : ℕ → EventFault → Ledger → Ledger → Type 0
IsHeldBack t fault old new = IsUndone (Tick t) t true fault old new

-- no side is due
pub record IsUntimely (t : ℕ) (old new : Ledger) : Type 0 where
  pub due : IsDue old.stands t false
  pub idle : IsIdle t old new

-- one call of `enter_due`: the held side due entered; or none is due, and only the moment changed; or it did not enter
abbrev pub IsTick : ℕ → Ledger → Ledger → Result Bool EventFault → Type 0
IsTick t old new (Ok true) = IsEntered t old new
IsTick t old new (Ok false) = IsUntimely t old new
IsTick t old new (Err fault) = IsHeldBack t fault old new

-- the same but for one participant's queue
abbrev pub with_queue : Ledger → ℕ → Queue → Ledger
with_queue l j q = record l { queues = set l.queues j q }

-- the front of a queue was taken, and may be put back; or the queue is empty
abbrev pub IsFront : ℕ → Ledger → Ledger → Option Outgoing → Type 0
IsFront j old new None = (q q' : Queue) × (slice_get old.queues j ≡ Some q) × (new ≡ with_queue old j q') × (q.waiting.items ≡ []) × (q'.waiting.items ≡ []) × (q'.is_cut ≡ q.is_cut)
IsFront j old new (Some x) = (q q' : Queue) × (slice_get old.queues j ≡ Some q) × (new ≡ with_queue old j q') × (q.waiting.items ≡ x ∷ q'.waiting.items) × (q'.is_cut ≡ q.is_cut) × HasPlace q'

-- the front was put back
abbrev pub IsPutBack : ℕ → Outgoing → Ledger → Ledger → Type 0
IsPutBack j x old new = (q q' : Queue) × (slice_get old.queues j ≡ Some q) × (new ≡ with_queue old j q') × (q'.waiting.items ≡ x ∷ q.waiting.items) × (q'.is_cut ≡ q.is_cut)

-- a queue became the one sentinel; one that was cut stays
abbrev pub Cuts : ℕ → Ledger → Ledger → Type 0
Cuts j old new = (q q' : Queue) × (slice_get old.queues j ≡ Some q) × (new ≡ with_queue old j q') × IsCut q q' q.is_cut
