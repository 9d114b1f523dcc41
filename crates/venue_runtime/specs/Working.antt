-- The parts of a worker after its turns.
use Rattle.std.specs.Prelude.{◌≡◌, ℕ, ◌<◌, List, [], Bool, length}
use Rattle.std.specs.declared.result.Result.{Result}
use Rattle.atomic_table.specs.Seated.{TableId}
use Rattle.fix_dictionary.specs.declared.messages.Item.{Item}
use Rattle.intake_seats.specs.Given.{HandEnd, TakeEnd}
use Rattle.venue_core.specs.State.{VenueFacts, State, standing}
use Rattle.venue_rules.specs.Kept.{IsLastOf}
use Rattle.venue_rules.specs.Market.{Market}
use Rattle.venue_rules.specs.Run.{Input, rows}
use Rattle.venue_rules.specs.declared.trail.EventFault.{EventFault}
use Rattle.venue_rules.specs.declared.trail.TrailRow.{TrailRow}
use Rattle.outbound_queue.specs.declared.outgoing.Outgoing.{Outgoing}
use Rattle.outbound_queue.specs.declared.queue.Queue.{Queue}
use Rattle.venue_worker.specs.InputHistory.{IsAccount, IsKept}
use Rattle.venue_engine.specs.Queued.{AreEmpty}
use Rattle.venue_worker.specs.Calls.{IsSameElse}
use Rattle.venue_worker.specs.Shutdown.{AreDrained, HasShutDown}
use Rattle.venue_worker.specs.Turns.{AreServed, HasRun}
use Rattle.venue_worker.specs.Work.{Work}

-- a venue, its keeper's rows, whether the store is clean and how often it refused, the queues and the ends are the
-- parts of a worker
pub record AreParts (venue : State) (written : List TrailRow) (is_clean : Bool) (refused : ℕ) (queues : List Queue) (takes : List (TakeEnd Item)) (hands : List (HandEnd Outgoing)) (w : Work) : Type 0 where
  pub market : venue.market ≡ w.ledger.market
  pub stands : standing venue.day ≡ w.ledger.stands
  pub rows_are : written ≡ w.ledger.rows
  pub clean : is_clean ≡ w.ledger.is_clean
  pub refusals : refused ≡ w.ledger.refused
  pub queues_are : queues ≡ w.ledger.queues
  pub takes_are : takes ≡ w.takes
  pub hands_are : hands ≡ w.hands

-- `turns` turns led a worker to one with these parts
pub record HasWorked (turns : ℕ) (emitted emitted' : List ℕ) (ran : Result Unit EventFault) (before : Work) (venue : State) (written : List TrailRow) (is_clean : Bool) (refused : ℕ) (queues : List Queue) (takes : List (TakeEnd Item)) (hands : List (HandEnd Outgoing)) : Type 0 where
  pub after : Work
  pub end_tokens : List (TakeEnd Unit)
  pub run : HasRun turns emitted emitted' end_tokens ran before after
  pub kept : IsKept after
  pub parts : AreParts venue written is_clean refused queues takes hands after

-- The trail refused within `turns` turns; then in as many rounds, or in fewer that left nothing to do, the participants
-- were given what they were owed and were cut, and nothing else changed, which left a worker with these parts.
pub record HasStopped (turns : ℕ) (emitted emitted' : List ℕ) (ran : Result Unit EventFault) (before : Work) (venue : State) (written : List TrailRow) (is_clean : Bool) (refused : ℕ) (queues : List Queue) (takes : List (TakeEnd Item)) (hands : List (HandEnd Outgoing)) : Type 0 where
  pub middle : Work
  pub after : Work
  pub between : List ℕ
  pub end_tokens : List (TakeEnd Unit)
  pub run : HasRun turns emitted between end_tokens ran before middle
  pub only : IsSameElse middle after
  pub seen_off : AreDrained middle after
  pub served : 0 < turns → AreServed middle after
  pub rounds : HasShutDown turns between emitted' middle after
  pub parts : AreParts venue written is_clean refused queues takes hands after

-- a new worker, for this market and its state, over these rows, these boards and these ends, with an empty queue for
-- each participant
pub record IsNewWorker (m : Market) (stands : VenueFacts) (kept : List TrailRow) (refused : ℕ) (intake : TableId) (takes : List (TakeEnd Item)) (replies : TableId) (hands : List (HandEnd Outgoing)) (w : Work) : Type 0 where
  pub market : w.ledger.market ≡ m
  pub stands_is : w.ledger.stands ≡ stands
  pub refusals : w.ledger.refused ≡ refused
  pub number : ℕ
  pub last_is : IsLastOf kept number w.ledger.last
  pub intake_is : w.intake ≡ intake
  pub takes_are : w.takes ≡ takes
  pub replies_is : w.replies ≡ replies
  pub hands_are : w.hands ≡ hands
  pub count : length w.ledger.queues ≡ length hands
  pub empty : AreEmpty w.ledger.queues
  pub before : List Input
  pub kept_is : kept ≡ rows before
  pub account : IsAccount before [] w

-- the parts of a new worker after `turns` turns
pub record HasWorkedAnew (turns : ℕ) (emitted emitted' : List ℕ) (ran : Result Unit EventFault) (m : Market) (stands : VenueFacts) (kept : List TrailRow) (refused : ℕ) (intake : TableId) (takes : List (TakeEnd Item)) (replies : TableId) (hands : List (HandEnd Outgoing))
    (venue : State) (written : List TrailRow) (is_clean : Bool) (refused' : ℕ) (queues : List Queue) (takes' : List (TakeEnd Item)) (hands' : List (HandEnd Outgoing)) : Type 0 where
  pub worker : Work
  pub begins : IsNewWorker m stands kept refused intake takes replies hands worker
  pub worked : HasWorked turns emitted emitted' ran worker venue written is_clean refused' queues takes' hands'
