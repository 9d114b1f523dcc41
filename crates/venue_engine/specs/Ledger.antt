-- The model of an engine.
use Rattle.std.specs.Prelude.{◌≡◌, ℕ, Bool, true, List}
use Rattle.venue_rules.specs.declared.trail.TrailRow.{TrailRow}
use Rattle.venue_rules.specs.Market.{Market}
use Rattle.venue_core.specs.State.{VenueFacts, State, standing}
use Rattle.outbound_queue.specs.declared.queue.Queue.{Queue}

-- the venue's market and its state; the keeper's rows, with their count at the start and now, whether the store is
-- clean and how often it refused; the last moment; a queue for each participant
pub record Ledger : Type 0 where
  pub market : Market
  pub stands : VenueFacts
  pub rows : List TrailRow
  pub begun : ℕ
  pub count : ℕ
  pub is_clean : Bool
  pub refused : ℕ
  pub last : ℕ
  pub queues : List Queue

-- of a keeper (its rows, whether it is clean, how often it refused), a venue, the queues, the counts and the last
-- moment
abbrev pub ledger : List TrailRow → Bool → ℕ → State → List Queue → ℕ → ℕ → ℕ → Ledger
ledger rows is_clean refused venue queues begun count last = record {
  market = venue.market;
  stands = standing venue.day;
  rows = rows;
  begun = begun;
  count = count;
  is_clean = is_clean;
  refused = refused;
  last = last;
  queues = queues;
}

-- what no call changes; a store that is not clean stays so
pub record IsSameLedger (old new : Ledger) : Type 0 where
  pub market : new.market ≡ old.market
  pub begun : new.begun ≡ old.begun
  pub clean : new.is_clean ≡ true → old.is_clean ≡ true
