use Rattle.std.specs.Prelude.{ℕ, List}
use Rattle.venue_rules.specs.declared.facts.Fact.{Fact}
use Rattle.venue_rules.specs.declared.trail.RoomFact.{RoomFact}
use Rattle.venue_rules.specs.declared.trail.TradeFact.{TradeFact}
use Rattle.venue_rules.specs.Market.{Market}
use Rattle.venue_core.specs.declared.venue_state.VenueState.{VenueState}

-- the state of a venue: the facts of its book, of its rooms and of its held sides, each in order; the count of
-- execution reports; and the readings of its trades and of its rooms with a quote
pub record VenueFacts : Type 0 where
  pub book : List Fact
  pub rooms : List Fact
  pub delay : List Fact
  pub reports : ℕ
  pub trades : List TradeFact
  pub quoted : List RoomFact

-- the state without spare capacities
abbrev pub standing : VenueState → VenueFacts
standing d = record { book = d.book.facts; rooms = d.rooms.facts; delay = d.held.facts; reports = d.reports; trades = d.traded.trades; quoted = d.quoted.rooms }

-- a venue: its market, its day's state, and the number of items taken
pub record State : Type 0 where
  pub market : Market
  pub day : VenueState
  pub items : ℕ
