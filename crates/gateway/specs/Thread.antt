-- A session's thread as a state machine over its events, and the events of one turn.
use Rattle.std.specs.Prelude.{ℕ, ◌+◌, ◌%◌, zero, suc, ◌≡◌, ◌≢◌, List, [], ◌∷◌, ◌++◌, length, max, Bool, true, false, if◌then◌else◌, Option, Some, None, MatchOption, not, is_some, ◌&&◌, ◌||◌, ◌≤◌, ◌<◌, take}
use Rattle.fix_dictionary.specs.declared.messages.Item.{Item}
use Rattle.fix_session.specs.Reader.{Reader}
use Rattle.fix_session.specs.State.{State, Seen, resumed, broken}
use Rattle.fix_session.specs.Table.{are_numbers_spent}
use Rattle.fix_session.specs.Machine as session
use Rattle.intake_seats.specs.Ends.{IsSameHander, IsSameTaker}
use Rattle.intake_seats.specs.Given.{HandEnd, TakeEnd}
use Rattle.gateway.specs.declared.line.Accept.{Accept}
use Rattle.gateway.specs.declared.line.Accept.TheVariants as accept
use Rattle.gateway.specs.declared.piece.Given.{Given}
use Rattle.gateway.specs.declared.piece.Given.TheVariants as gave
use Rattle.outbound_queue.specs.declared.outgoing.Outgoing.{Outgoing}
use Rattle.outbound_queue.specs.declared.outgoing.Outgoing.TheVariants.{Message, Cut}
use Rattle.gateway.specs.declared.turn.CollectOutcome.{CollectOutcome}
use Rattle.gateway.specs.declared.turn.CollectOutcome.TheVariants as collect
use Rattle.gateway.specs.declared.turn.WriteOutcome.{WriteOutcome}
use Rattle.gateway.specs.declared.turn.WriteOutcome.TheVariants as wrote
use Rattle.gateway.specs.declared.turn.RepushOutcome.{RepushOutcome}
use Rattle.gateway.specs.declared.turn.RepushOutcome.TheVariants as repeat
use Rattle.gateway.specs.declared.turn.Reading.{Reading}
use Rattle.gateway.specs.declared.turn.Reading.TheVariants as reading
use Rattle.fix_session.specs.declared.plan.Step.{Step}
use Rattle.fix_session.specs.declared.session.SendFault.TheVariants.{Full, NoMemory}
use Rattle.fix_session.specs.declared.plan.Step.TheVariants.{Idle, Did, App, Dropped}
use Rattle.gateway.specs.Notices.{report_of}
use Rattle.gateway.specs.Steps.{Settled, HasEnded, is_dropped}
use Rattle.gateway.specs.declared.turn.Stepped.{Stepped}
use Rattle.gateway.specs.declared.turn.TickStep.{TickStep}
use Rattle.gateway.specs.declared.turn.Work.{Work}
use Rattle.gateway.specs.declared.turn.Turn.{Turn}
use Rattle.gateway.specs.declared.turn.HandOutcome.{HandOutcome}
use Rattle.gateway.specs.declared.turn.HandOutcome.TheVariants as handed
use Rattle.gateway.specs.declared.turn.TickOutcome.{TickOutcome}
use Rattle.gateway.specs.declared.turn.TickOutcome.TheVariants as ticked
use Rattle.gateway.specs.Said.{Said, Accepted, Gave, Took, Broke_off}

-- the model of a thread
pub record Thread : Type 0 where
  pub session : State
  pub kept : Option (List ℕ)  -- a piece kept after an allocation failure
  pub hand : HandEnd Item
  pub take : TakeEnd Outgoing
  pub said : List Said  -- what the line answered and took

-- the bytes kept at the front of a buffer, or none
abbrev pub kept_in : Option ℕ → List ℕ → Option (List ℕ)
kept_in None buffer = None
kept_in (Some count) buffer = Some (take count buffer)

-- a thread that keeps no piece
abbrev pub at_start : Seen → HandEnd Item → TakeEnd Outgoing → List Said → Thread
at_start session hand take said = record { session = session.state; kept = None; hand = hand; take = take; said = said }

-- the same without the looks at the seats
pub record ThreadState : Type 0 where
  pub session : State
  pub kept : Option (List ℕ)
  pub given : List Item  -- handed to the venue
  pub collected : List Outgoing  -- taken from the reply seat
  pub said : List Said

abbrev pub standing : Thread → ThreadState
standing a =
    record { session = a.session; kept = a.kept; given = a.hand.given; collected = a.take.taken; said = a.said }

-- The events of a session's thread
pub data Event : Type 0 where
  -- the line was asked for a connection; one that is up is a Resume, a fault a Break
  Accepts : (answer : Accept) → (t : ℕ) → Event
  -- a reply is sent, or the sentinel drops the line, and the seat is empty
  Collects : (owed : Outgoing) → (t : ℕ) → Event
  -- the line takes what is queued
  Writes : Event
  -- the line breaks off in what is queued
  Breaks_off : Event
  -- the line was read; its end or a fault is a Break
  Reads : (given : Given) → Event
  -- the line was read, and the piece is kept, since an allocation failed
  Keeps : (piece : List ℕ) → Event
  -- the piece that was kept
  Repeats : (piece : List ℕ) → Event
  Steps : (t : ℕ) → Event
  -- the first ready message is handed over
  Hands : Event
  Ticks : (t : ℕ) → Event

-- the line breaks
abbrev pub breaks : ThreadState → ThreadState
breaks s = record s { session = broken s.session; kept = None }

abbrev pub accepts : ThreadState → Accept → ℕ → ThreadState
accepts s accept.Up t = record s { session = resumed s.session (max s.session.line.moment t); kept = None }
accepts s accept.Quiet t = s
accepts s accept.Over t = s
accepts s accept.Fault t = breaks s

abbrev pub reads : Reader → ThreadState → Given → ThreadState
reads r s (gave.Got piece) = record s { session = session.pushed r s.session piece }
reads r s gave.Quiet = s
reads r s gave.Ended = breaks s
reads r s gave.Fault = breaks s

abbrev pub collects : ThreadState → Outgoing → ℕ → ThreadState
collects s (Message app) t =
    if are_numbers_spent s.session
    then s
    else record s { session = session.sent s.session app (max s.session.line.moment t); collected = s.collected ++ Message app ∷ [] }
collects s Cut t = record (breaks s) { collected = s.collected ++ Cut ∷ [] }

abbrev pub hands : ThreadState → List Item → ThreadState
hands s [] = s
hands s (x ∷ rest) = record s { session = record s.session { ready = rest }; given = s.given ++ x ∷ [] }

abbrev pub unqueued : State → State
unqueued s = record s { wire = [] }

abbrev pub moves : Reader → ThreadState → Event → ThreadState
moves r s (Accepts answer t) = record (accepts s answer t) { said = s.said ++ Accepted answer ∷ [] }
moves r s (Collects owed t) = collects s owed t
moves r s Writes = record s { session = unqueued s.session; said = s.said ++ Took s.session.wire ∷ [] }
moves r s Breaks_off = record (breaks s) { said = s.said ++ Broke_off s.session.wire ∷ [] }
moves r s (Reads given) = record (reads r s given) { said = s.said ++ Gave given ∷ [] }
moves r s (Keeps piece) = record s { kept = Some piece; said = s.said ++ Gave (gave.Got piece) ∷ [] }
moves r s (Repeats piece) = record s { session = session.pushed r s.session piece; kept = None }
moves r s (Steps t) = record s { session = (session.step r s.session t).0 }
moves r s Hands = hands s s.session.ready
moves r s (Ticks t) = record s { session = (session.tick s.session t).0 }

abbrev pub runs : Reader → List Event → ThreadState → ThreadState
runs r [] s = s
runs r (e ∷ events) s = runs r events (moves r s e)

-- The events of each phase of a turn

abbrev pub accept_events : ℕ → Option Accept → List Event
accept_events t None = []
accept_events t (Some answer) = Accepts answer t ∷ []

abbrev pub collect_events : ℕ → CollectOutcome → List Event
collect_events t collect.Nothing = []
collect_events t (collect.Sent app) = Collects (Message app.value) t ∷ []
collect_events t collect.Cut = Collects Cut t ∷ []
collect_events t (collect.Refused app fault) = []

-- a message was refused as the numbers are spent, and for memory only where they are not
abbrev pub HasCause : CollectOutcome → State → Type 0
HasCause (collect.Refused app Full) s = are_numbers_spent s ≡ true
HasCause (collect.Refused app NoMemory) s = are_numbers_spent s ≡ false
HasCause collect.Nothing s = Unit {0}
HasCause (collect.Sent app) s = are_numbers_spent s ≡ false
HasCause collect.Cut s = Unit {0}

-- the same of a look, where there was one
abbrev pub HasCauseIf : Option CollectOutcome → State → Type 0
HasCauseIf None s = Unit {0}
HasCauseIf (Some collected) s = HasCause collected s

abbrev pub write_events : WriteOutcome → List Event
write_events wrote.Nothing = []
write_events wrote.All = Writes ∷ []
write_events wrote.Fault = Breaks_off ∷ []

abbrev pub repeat_events : RepushOutcome → List Event
repeat_events repeat.Nothing = []
repeat_events (repeat.Pushed piece) = Repeats piece ∷ []
repeat_events repeat.Refused = []

abbrev pub read_events : Reading → List Event
read_events reading.Plenty = []
read_events (reading.Answered given) = Reads given ∷ []
read_events (reading.Kept piece) = Keeps piece ∷ []

abbrev pub hand_events : HandOutcome → List Event
hand_events handed.Given = Hands ∷ []
hand_events handed.Nothing = []
hand_events handed.Refused = []

abbrev pub tick_events : ℕ → TickOutcome → List Event
tick_events t ticked.Refused = []
tick_events t ticked.Done = Ticks t ∷ []
tick_events t (ticked.Dropped why on) = Ticks t ∷ []

-- the tick dropped the line
abbrev pub is_silenced : TickOutcome → Bool
is_silenced ticked.Refused = false
is_silenced ticked.Done = false
is_silenced (ticked.Dropped why on) = true

-- what became of a tick that gave this answer on such a line
abbrev pub outcome_of : Bool → Step → TickOutcome
outcome_of on Idle = ticked.Done
outcome_of on Did = ticked.Done
outcome_of on (App n) = ticked.Done
outcome_of on (Dropped why) = ticked.Dropped why on

-- what the state machine makes of a tick here
abbrev pub tick_in : ℕ → State → TickOutcome
tick_in t s = outcome_of s.line.logged_on (session.tick s t).1

-- what became of a tick is what the state machine answers here; an allocation failed only where it would send
abbrev pub AnswersTick : ℕ → State → TickOutcome → Type 0
AnswersTick t s ticked.Refused = (session.tick s t).1 ≡ Did
AnswersTick t s ticked.Done = tick_in t s ≡ ticked.Done
AnswersTick t s (ticked.Dropped why on) = tick_in t s ≡ ticked.Dropped why on

-- a session after a tick of this outcome
abbrev pub after_tick : ℕ → State → TickOutcome → State
after_tick t s ticked.Refused = s
after_tick t s ticked.Done = (session.tick s t).0
after_tick t s (ticked.Dropped why on) = (session.tick s t).0

-- n steps
abbrev pub steps_at : ℕ → ℕ → List Event
steps_at zero t = []
steps_at (suc n) t = Steps t ∷ steps_at n t

abbrev pub step_events : ℕ → ℕ → Stepped → List Event
step_events steps t stepped = steps_at steps t ++ write_events stepped.wrote

abbrev pub beat_events : ℕ → TickStep → List Event
beat_events t beat = tick_events t beat.ticked ++ write_events beat.wrote

-- the steps of a turn, and what is written where they end in a drop; how they ended is what the state machine answered,
-- step by step
pub record StepsOut (r : Reader) (steps t : ℕ) (stepped : Stepped) (before after : Thread) : Type 0 where
  pub moved : standing after ≡ runs r (step_events steps t stepped) (standing before)
  pub settled : Settled r stepped.end (runs r (steps_at steps t) (standing before)).session
  pub ended : HasEnded r steps t before.session stepped.end
  pub reported : stepped.after ≡ report_of (runs r (steps_at steps t) (standing before)).session

-- Further facts of the phases

-- the last look at the reply seat found it full, exactly where something was collected or refused
abbrev pub Found : CollectOutcome → ℕ → Type 0
Found collect.Nothing last = ¬ (last % 4 ≡ 2)
Found found last = last % 4 ≡ 2

-- what was pushed again is what was kept
abbrev pub WasKept : RepushOutcome → Option (List ℕ) → Type 0
WasKept repeat.Nothing kept = kept ≡ None
WasKept (repeat.Pushed piece) kept = kept ≡ Some piece
WasKept repeat.Refused kept = kept ≢ None

-- nothing is kept from then on, unless it was refused again
abbrev pub IsFree : RepushOutcome → Option (List ℕ) → Type 0
IsFree repeat.Refused kept = Unit {0}
IsFree pushed kept = kept ≡ None

-- a ready message means a look at the intake seat
abbrev pub looks_of : HandOutcome → ℕ
looks_of handed.Nothing = 0
looks_of handed = 1

-- A turn

abbrev pub reading_events : Option Reading → List Event
reading_events None = []
reading_events (Some reading) = read_events reading

-- the line was read
abbrev pub is_read : Option Reading → Bool
is_read None = false
is_read (Some reading.Plenty) = false
is_read (Some (reading.Answered given)) = true
is_read (Some (reading.Kept piece)) = true

-- neither had a write failed nor was a kept piece refused again
abbrev pub is_unhindered : WriteOutcome → RepushOutcome → Bool
is_unhindered wrote.Fault repeat = false
is_unhindered wrote repeat.Refused = false
is_unhindered wrote repeat = true

-- the events of a turn from its first write up to the reading
abbrev pub before_read : Work → List Event
before_read work = write_events work.wrote ++ repeat_events work.repeat

-- the same up to the first step
abbrev pub before_steps : Work → List Event
before_steps work = before_read work ++ reading_events work.reading

-- the same up to the end of the steps
abbrev pub before_hand : ℕ → ℕ → Work → List Event
before_hand steps t work = before_read work ++ (reading_events work.reading ++ step_events steps t work.stepped)

abbrev pub work_events : ℕ → ℕ → Work → List Event
work_events steps t work = before_hand steps t work ++ (hand_events work.handed ++ beat_events t work.beat)

-- the work of a turn, from its first write on
pub record Works (r : Reader) (t : ℕ) (may_read : Bool) (steps : ℕ) (work : Work) (before after : Thread) : Type 0 where
  -- the thread moved by these events alone
  pub moved : standing after ≡ runs r (work_events steps t work) (standing before)
  -- the line was read where it was to be, unless a write had failed or a kept piece was refused again
  pub asked : is_some work.reading ≡ (may_read && is_unhindered work.wrote work.repeat)
  -- a piece that was kept was pushed again or refused again, and no other was
  pub kept : WasKept work.repeat (runs r (write_events work.wrote) (standing before)).kept
  -- the read was left out only where `MAX_READY` messages were ready
  pub plenty : work.reading ≡ Some reading.Plenty → 1024 ≤ length (runs r (before_read work) (standing before)).session.ready
  -- it was read only where there were fewer
  pub few : is_read work.reading ≡ true → length (runs r (before_read work) (standing before)).session.ready < 1024
  -- all that was queued before the reading was offered to the line
  pub out : (runs r (before_read work) (standing before)).session.wire ≡ []
  -- the steps ended where no frame was unread or the line was down, or an allocation failed
  pub settled : Settled r work.stepped.end (runs r (before_read work ++ (reading_events work.reading ++ steps_at steps t)) (standing before)).session
  -- no message was tried only where none was ready
  pub idle : work.handed ≡ handed.Nothing → (runs r (before_hand steps t work) (standing before)).session.ready ≡ []
  -- after a drop all that was queued was offered at once
  pub stepped_out : is_dropped work.stepped.end ≡ true → (runs r (before_hand steps t work) (standing before)).session.wire ≡ []
  -- how the steps ended is what the state machine answered there, step by step: a drop with its cause
  pub ended : HasEnded r steps t (runs r (before_steps work) (standing before)).session work.stepped.end
  -- the session is reported as it was before the steps and after them
  pub reported_before : work.stepped.before ≡ report_of (runs r (before_steps work) (standing before)).session
  pub reported_after : work.stepped.after ≡ report_of (runs r (before_steps work ++ steps_at steps t) (standing before)).session
  -- and what became of the tick is what the state machine answered there
  pub ticks : AnswersTick t (runs r (before_hand steps t work ++ hand_events work.handed) (standing before)).session work.beat.ticked
  pub ticked_out : is_silenced work.beat.ticked ≡ true → after.session.wire ≡ []

abbrev pub collected_events : ℕ → Option CollectOutcome → List Event
collected_events t None = []
collected_events t (Some collected) = collect_events t collected

abbrev pub worked_events : ℕ → ℕ → Option Work → List Event
worked_events steps t None = []
worked_events steps t (Some work) = work_events steps t work

-- the events of a turn up to its first write
abbrev pub before_work : Turn → List Event
before_work turn = accept_events turn.moment turn.accepted ++ collected_events turn.moment turn.collected

-- a turn, and the count of its steps
pub record TurnRecord : Type 0 where
  pub turn : Turn
  pub steps : ℕ

abbrev pub turn_events : TurnRecord → List Event
turn_events turn_record = before_work turn_record.turn ++ worked_events turn_record.steps turn_record.turn.moment turn_record.turn.work

-- there will be no more connections
abbrev pub is_over : Option Accept → Bool
is_over (Some accept.Over) = true
is_over answer = false

-- the sentinel was collected
abbrev pub is_cut_token : CollectOutcome → Bool
is_cut_token collect.Cut = true
is_cut_token collected = false

-- the reply seat was emptied, or the intake seat was filled
abbrev pub has_collected : Option CollectOutcome → Bool
has_collected None = false
has_collected (Some collect.Nothing) = false
has_collected (Some (collect.Sent app)) = true
has_collected (Some collect.Cut) = true
has_collected (Some (collect.Refused app fault)) = false

abbrev pub is_given : HandOutcome → Bool
is_given handed.Nothing = false
is_given handed.Given = true
is_given handed.Refused = false

abbrev pub has_handed : Option Work → Bool
has_handed None = false
has_handed (Some work) = is_given work.handed

abbrev pub has_progressed : Turn → Bool
has_progressed turn = has_collected turn.collected || has_handed turn.work

-- a turn leaves its work out where the sentinel was collected, and nowhere else
abbrev pub LeavesWork : Bool → Option Work → Type 0
LeavesWork true None = Unit {0}
LeavesWork false (Some work) = Unit {0}
LeavesWork turn_record work = ⊥

-- what a turn leaves out: all where the line is over, the work where the sentinel was collected, and else nothing
abbrev pub EndsBy : Bool → Option CollectOutcome → Option Work → Type 0
EndsBy true None None = Unit {0}
EndsBy false (Some collected) work = LeavesWork (is_cut_token collected) work
EndsBy over collected work = ⊥

-- the last look at the reply seat, where there was one
abbrev pub LookedAt : Option CollectOutcome → ℕ → Type 0
LookedAt None last = Unit {0}
LookedAt (Some collected) last = Found collected last

abbrev pub one_if : Bool → ℕ
one_if true = 1
one_if false = 0

abbrev pub tries : Option Work → ℕ
tries None = 0
tries (Some work) = looks_of work.handed

-- the work of a turn, if there was any
abbrev pub WorksIf : Reader → TurnRecord → Thread → Thread → Option Work → Type 0
WorksIf r turn_record middle after None = after ≡ middle
WorksIf r turn_record middle after (Some work) =
    Works r turn_record.turn.moment (turn_record.turn.passed && not (is_some turn_record.turn.accepted)) turn_record.steps work middle after

-- one turn
pub record IsTurn (r : Reader) (turn_record : TurnRecord) (before after : Thread) : Type 0 where
  pub ends_by : EndsBy (is_over turn_record.turn.accepted) turn_record.turn.collected turn_record.turn.work
  -- the line was asked for a connection where there was none, and nowhere else
  pub asked : is_some turn_record.turn.accepted ≡ not before.session.line.up
  -- up to the first write, the thread moved by the turn's events alone
  pub middle : Thread
  pub moved : standing middle ≡ runs r (before_work turn_record.turn) (standing before)
  -- and by the work's events alone from there on
  pub worked : WorksIf r turn_record middle after turn_record.turn.work
  -- the ends of the seats are the same; a look at the reply seat was made, and one at the intake seat where a message
  -- was ready
  pub take : IsSameTaker before.take after.take
  pub hand : IsSameHander before.hand after.hand
  pub take_looked : before.take.looks + one_if (is_some turn_record.turn.collected) ≤ after.take.looks
  pub hand_looked : before.hand.looks + tries turn_record.turn.work ≤ after.hand.looks
  pub found : LookedAt turn_record.turn.collected after.take.last
  -- a reply was sent only where numbers are left, and was refused as none is or for memory
  pub cause : HasCauseIf turn_record.turn.collected (runs r (accept_events turn_record.turn.moment turn_record.turn.accepted) (standing before)).session
  pub unlooked : turn_record.turn.collected ≡ None → after.take ≡ before.take

-- Turns one after another

-- the outcome of the last look at the reply seat in these turns, or else this
abbrev pub or_else : Option CollectOutcome → Option CollectOutcome → Option CollectOutcome
or_else None found = found
or_else (Some collected) found = Some collected

abbrev pub last_look : Option CollectOutcome → List TurnRecord → Option CollectOutcome
last_look found [] = found
last_look found (turn_record ∷ turn_records) = last_look (or_else turn_record.turn.collected found) turn_records

abbrev pub Follow : Reader → List TurnRecord → Thread → Thread → Type 0
Follow r [] before after = after ≡ before
Follow r (turn_record ∷ turn_records) before after = (middle : Thread) × IsTurn r turn_record before middle × Follow r turn_records middle after

abbrev pub events_of : List TurnRecord → List Event
events_of [] = []
events_of (turn_record ∷ turn_records) = turn_events turn_record ++ events_of turn_records

-- `turns` turns, fewer only after one that leaves out its work
abbrev pub IsCount : ℕ → List TurnRecord → Type 0
IsCount zero [] = Unit {0}
IsCount zero (turn_record ∷ turn_records) = ⊥
IsCount (suc n) [] = ⊥
IsCount (suc n) (turn_record ∷ turn_records) = MatchOption turn_record.turn.work (turn_records ≡ []) (λ _. IsCount n turn_records)

-- what the gate and the clock answered
abbrev pub gates : List TurnRecord → List Bool
gates [] = []
gates (turn_record ∷ turn_records) = turn_record.turn.passed ∷ gates turn_records

abbrev pub moments : List TurnRecord → List ℕ
moments [] = []
moments (turn_record ∷ turn_records) = turn_record.turn.moment ∷ moments turn_records

-- the looks at the reply seat, and those at the intake seat, that turns make at least
abbrev pub looked : List TurnRecord → ℕ
looked [] = 0
looked (turn_record ∷ turn_records) = one_if (is_some turn_record.turn.collected) + looked turn_records

abbrev pub tried : List TurnRecord → ℕ
tried [] = 0
tried (turn_record ∷ turn_records) = tries turn_record.turn.work + tried turn_records

-- the whole of a session's thread: these turns lead from the state before to the state after
pub record Loops (r : Reader) (turns : ℕ) (turn_records : List TurnRecord) (before after : Thread) : Type 0 where
  pub follow : Follow r turn_records before after
  pub count : IsCount turns turn_records
  pub moved : standing after ≡ runs r (events_of turn_records) (standing before)
  pub take : IsSameTaker before.take after.take
  pub hand : IsSameHander before.hand after.hand
  pub take_looked : before.take.looks + looked turn_records ≤ after.take.looks
  pub hand_looked : before.hand.looks + tried turn_records ≤ after.hand.looks
  -- where these turns looked at the reply seat, the last look found it full, exactly where it had an outcome
  pub found : LookedAt (last_look None turn_records) after.take.last
