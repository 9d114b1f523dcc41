-- The invariant of a worker between any two calls.
use Rattle.std.specs.Prelude.{◌≡◌, ℕ, ◌≤◌, true, List, ◌++◌, length, slice_get, Some}
use Rattle.fix_dictionary.specs.declared.messages.App.{App}
use Rattle.fix_dictionary.specs.declared.messages.Item.{Item}
use Rattle.intake_seats.specs.Given.{HandEnd, TakeEnd}
use Rattle.intake_seats.specs.Ends.{AreHands, AreTakes}
use Rattle.venue_rules.specs.Market.{Market}
use Rattle.venue_rules.specs.Run.{Input, run, run_from, is_timely_from, rows}
use Rattle.venue_core.specs.VenueFacts.{IsStanding}
use Rattle.outbound_queue.specs.declared.outgoing.Outgoing.{Outgoing}
use Rattle.outbound_queue.specs.declared.queue.Queue.{Queue}
use Rattle.venue_rules.specs.Limits.{IsRising}
use Rattle.venue_rules.specs.MoreInputs.{said_to}
use Rattle.outbound_queue.specs.Taken.{items_from}
use Rattle.venue_engine.specs.Queued.{AreFew}
use Rattle.venue_worker.specs.Inputs.{Each, IsSeated}
use Rattle.venue_worker.specs.Queued.{IsOwed}
use Rattle.venue_worker.specs.Work.{Work}

-- the messages that a participant is owed for the inputs since those that came before
abbrev pub owed_to : Market → List Input → List Input → ℕ → List App
owed_to m before since who = said_to who (run_from m (run m before).history since).replies

-- A worker's account: the inputs of the keeper's rows at the start, and those that it added. The rows are theirs, where
-- the store is clean; the venue is where they lead; each tick that was added found a side due, and no message did;
-- their moments do not fall, and the last is none before it; the messages that were added interleave those taken from
-- the seats, each whole and in order; at most 65,536 replies wait for each participant; and what was given to a
-- session, and then its queue, is what it is owed for what was added.
pub record IsAccount (before since : List Input) (w : Work) : Type 0 where
  pub begun : length before ≡ w.ledger.begun
  pub rows : w.ledger.is_clean ≡ true → w.ledger.rows ≡ rows (before ++ since)
  pub history : IsStanding w.ledger.stands (run w.ledger.market (before ++ since)).history
  pub timely : is_timely_from w.ledger.market (run w.ledger.market before).history since ≡ true
  pub risen : IsRising 0 (before ++ since) w.ledger.last
  pub seated : Each (IsSeated (length w.takes)) since
  pub takes : AreTakes w.intake w.takes
  pub hands : AreHands w.replies w.hands
  pub queues : (length w.ledger.queues ≡ length w.hands) × (length w.takes ≡ length w.hands) × (length w.hands ≤ 32)
  pub few : AreFew w.ledger.queues
  pub taken : (k : ℕ) (t : TakeEnd Item) → slice_get w.takes k ≡ Some t → t.taken ≡ items_from k since
  pub owed : (k : ℕ) (q : Queue) (h : HandEnd Outgoing) → slice_get w.ledger.queues k ≡ Some q → slice_get w.hands k ≡ Some h
      → IsOwed (owed_to w.ledger.market before since k) h.given q.waiting.items q.is_cut

-- there is such an account
pub record IsKept (w : Work) : Type 0 where
  pub before : List Input
  pub since : List Input
  pub account : IsAccount before since w
