use Rattle.std.specs.Prelude.{◌≡◌, ℕ, ◌≤◌, List, [], ◌∷◌, map, length, Option, Some}
use Rattle.venue_rules.specs.declared.facts.Fact.{Fact}
use Rattle.venue_rules.specs.declared.facts.Fact.TheVariants.{Asked, Quoted, Traded, Closed}
use Rattle.venue_rules.specs.declared.facts.Room.{Room}
use Rattle.venue_rules.specs.declared.facts.RoomQuote.{RoomQuote}
use Rattle.venue_rules.specs.declared.facts.Trade.{Trade}
use Rattle.venue_rules.specs.declared.facts.TradeSource.TheVariants.{Room as InRoom}
use Rattle.venue_rules.specs.Facts.{next_quote, next_room}
use Rattle.venue_rules.specs.Requests.{recipient_room}
use Rattle.venue_rules.specs.Rooms.{find_quote, find_room}
use Rattle.rfq_room.specs.Contents.{Contents}
use Rattle.rfq_room.specs.Named.{named_quotes, quote_room}
use Rattle.rfq_room.specs.Plans.{withdrawn}

-- a step of rooms: nothing; a room opens; a quote is made in the room with a number; a maker's live quotes at a moment,
-- with a name those with this identifier, are withdrawn; the quote with a number is passed; it trades
pub data Step : Type 0 where
  Nothing : Step
  Opens : Room → Step
  Quotes : List ℕ → Room → RoomQuote → Step
  Leaves : ℕ → ℕ → Option (List ℕ) → Step
  Passes : List ℕ → RoomQuote → Step
  Trades : List ℕ → RoomQuote → Room → Trade → Step

-- the facts of a step
abbrev pub facts_of : List Fact → Step → List Fact
facts_of facts Nothing = []
facts_of facts (Opens r) = Asked r ∷ []
facts_of facts (Quotes id r q) = Quoted q ∷ []
facts_of facts (Leaves maker t id) = map withdrawn (named_quotes facts maker t id)
facts_of facts (Passes id q) = withdrawn q ∷ []
facts_of facts (Trades id q r trade) = Traded trade ∷ Closed (record { room = r.number }) ∷ []

-- a room and a quote have the next number; a quote, a pass and a trade are of an existing room and quote
abbrev pub IsAllowed : List Fact → Step → Type 0
IsAllowed facts Nothing = Unit {0}
IsAllowed facts (Opens r) = (r.number ≡ next_room facts) × (length r.recipients ≤ recipient_room)
IsAllowed facts (Quotes id r q) = (find_room facts id ≡ Some r) × (q.room ≡ r.number) × (q.number ≡ next_quote facts)
IsAllowed facts (Leaves maker t id) = Unit {0}
IsAllowed facts (Passes id q) = find_quote facts id ≡ Some q
IsAllowed facts (Trades id q r trade) = (find_quote facts id ≡ Some q) × (quote_room facts id ≡ Some r) × (trade.place ≡ InRoom r.number q.number)

-- the facts of a step from this state, within capacity
pub record IsPlanOf (rooms : Contents) (added : List Fact) : Type 0 where
  pub step : Step
  pub allowed : IsAllowed rooms.facts step
  pub made : added ≡ facts_of rooms.facts step
  pub headroom : length added ≤ rooms.spare.headroom
