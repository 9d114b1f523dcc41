use Rattle.std.specs.Prelude.{◌≡◌, ℕ, ◌+◌, ◌≤◌, ◌<◌, ◌^◌, true, List, ◌++◌, length, Option}
use Rattle.venue_rules.specs.declared.facts.Fact.{Fact}
use Rattle.venue_rules.specs.declared.trail.RoomFact.{RoomFact}
use Rattle.venue_rules.specs.declared.trail.TradeFact.{TradeFact}
use Rattle.venue_rules.specs.Facts.{History, trades}
use Rattle.venue_rules.specs.Market.{Market}
use Rattle.venue_rules.specs.Answer.{Answer}
use Rattle.venue_rules.specs.Run.{Input}
use Rattle.price_book.specs.Steps.{IsPlanOf as IsBookPlan}
use Rattle.cross_delay.specs.Steps.{IsPlanOf as IsDelayPlan}
use Rattle.rfq_room.specs.RoomStore.{are_listed as are_rooms_listed}
use Rattle.rfq_room.specs.Steps.{IsPlanOf as IsRoomPlan}
use Rattle.rfq_handler.specs.Counting.{reports_in, trades_in}
use Rattle.rfq_handler.specs.Known.{are_known}
use Rattle.order_handler.specs.Made.{IsMade as AreOrdersMade, are_listed}
use Rattle.order_handler.specs.Parts.{Parts, answer_of as answer_of_orders}
use Rattle.trade_history.specs.Numbered.{AreNumbered}
use Rattle.trade_history.specs.Traded.{read_from}
use Rattle.venue_core.specs.declared.venue_state.VenueState.{VenueState}
use Rattle.venue_core.specs.declared.plan.Part.{Part}
use Rattle.venue_core.specs.declared.plan.Part.TheVariants.{OfOrders, OfRooms}
use Rattle.venue_core.specs.State.{VenueFacts, State, standing}
use Rattle.venue_core.specs.Read.{IsReadWith, read_count, rooms_of}
use Rattle.venue_core.specs.VenueFacts.{IsAnswer, IsStanding}

-- the answer of a plan
abbrev pub answer_of : Part → Answer
answer_of (OfOrders a) = answer_of_orders a
answer_of (OfRooms a read) = a

-- this is the answer in every history of the state
abbrev pub IsPlanned : VenueFacts → (History → Answer) → Part → Type 0
IsPlanned p answer a = (h : History) → IsStanding p h → answer_of a ≡ answer h

-- spare capacity for the trades among these facts, at most one input's
pub record HasTradeRoom (d : VenueState) (facts : List Fact) : Type 0 where
  pub room : trades_in facts ≤ d.traded.room
  pub few : trades_in facts ≤ 200

-- the reading added with these facts, in every history of the state, with spare capacity for it
pub record IsReadAdded (d : VenueState) (facts : List Fact) (read : Option RoomFact) : Type 0 where
  pub room : read_count read ≤ d.quoted.room
  pub right : (h : History) → IsStanding (standing d) h → IsReadWith h.facts facts read

-- the facts of a step of the rooms, within capacity, for listed instruments and known participants, and with this
-- reading
pub record IsRoomFit (m : Market) (d : VenueState) (a : Answer) (first : Option RoomFact) : Type 0 where
  pub plan : IsRoomPlan d.rooms a.facts
  pub listed : are_rooms_listed (length m.instruments) a.facts ≡ true
  pub known : are_known (length m.participants.names) a.facts ≡ true
  pub read : IsReadAdded d a.facts first

-- the facts may be added to the book and the held sides, or to the rooms and the readings
abbrev pub IsFit : Market → VenueState → Part → Type 0
IsFit m d (OfOrders a) = AreOrdersMade (length m.instruments) d.book d.held a
IsFit m d (OfRooms a read) = IsRoomFit m d a read

-- the facts with the trades
abbrev pub traded_by : Part → List Fact
traded_by (OfOrders a) = a.book
traded_by (OfRooms a read) = a.facts

-- and their trades too
pub record IsMade (m : Market) (d : VenueState) (p : Part) : Type 0 where
  pub fit : IsFit m d p
  pub trades : HasTradeRoom d (traded_by p)

-- spare capacity for the additions to the book, the held sides, the rooms and the readings
abbrev pub IsAddedTo : VenueState → Part → Type 0
IsAddedTo d (OfOrders a) = IsBookPlan d.book a.book × IsDelayPlan d.held a.delay × HasTradeRoom d a.book
IsAddedTo d (OfRooms a read) = IsRoomPlan d.rooms a.facts × HasTradeRoom d a.facts × IsReadAdded d a.facts read

-- the readings of trades, and those among these facts, with the next numbers
abbrev pub trades_with : List TradeFact → List Fact → List TradeFact
trades_with read facts = read ++ read_from (length read + 1) (trades facts)

-- the state with a plan's facts, reports, trades and the reading of its quote
abbrev pub with_part : VenueFacts → Part → VenueFacts
with_part p (OfOrders a) = record { book = p.book ++ a.book; rooms = p.rooms; delay = p.delay ++ a.delay; reports = p.reports + reports_in a.replies; trades = trades_with p.trades a.book; quoted = p.quoted }
with_part p (OfRooms a read) = record { book = p.book; rooms = p.rooms ++ a.facts; delay = p.delay; reports = p.reports + reports_in a.replies; trades = trades_with p.trades a.facts; quoted = p.quoted ++ rooms_of read }

-- listed instruments and known participants alone, with rooms and quotes numbered in order
pub record IsListed (m : Market) (d : VenueState) : Type 0 where
  pub book : are_listed (length m.instruments) d.book.facts ≡ true
  pub delay : are_listed (length m.instruments) d.held.facts ≡ true
  pub rooms : are_rooms_listed (length m.instruments) d.rooms.facts ≡ true
  pub known : are_known (length m.participants.names) d.rooms.facts ≡ true
  pub numbered : AreNumbered d.rooms.facts

-- counts small enough for further inputs
abbrev pub AreFew : VenueState → Type 0
AreFew d = (d.reports < 2 ^ 61) × (length d.traded.trades < 2 ^ 61)

-- the most items that a venue takes
abbrev pub most_items : ℕ
most_items = 10 ^ 15

-- the plan is the answer to an input in every history of the venue's state, and may be applied to it
pub record IsPlanOf (s : State) (p : Part) : Type 0 where
  pub input : Input
  pub answers : IsAnswer s input (answer_of p)
  pub made : IsMade s.market s.day p
  pub items : s.items ≤ most_items
