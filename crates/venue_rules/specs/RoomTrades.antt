use Rattle.std.specs.Prelude.{◌≡◌, ℕ, true, List, ◌∷◌, ◌++◌, map, Contains, None}
use Rattle.venue_rules.specs.declared.facts.Fact.{Fact}
use Rattle.venue_rules.specs.declared.facts.Fact.TheVariants.{Traded, Asked, Quoted}
use Rattle.venue_rules.specs.declared.facts.TradeSource.TheVariants.{Room as InRoom}
use Rattle.venue_rules.specs.declared.facts.Room.{Room}
use Rattle.venue_rules.specs.declared.facts.RoomQuote.{RoomQuote}
use Rattle.venue_rules.specs.declared.facts.Trade.{Trade}
use Rattle.venue_rules.specs.declared.replies.Reply.{Reply}
use Rattle.participants.specs.Relations.{ThreeUnrelated}
use Rattle.venue_rules.specs.Market.{Market}
use Rattle.venue_rules.specs.Rooms.{is_live, first_quote}
use Rattle.venue_rules.specs.Requests.{request_sent}
use Rattle.venue_rules.specs.Quotes.{quote_sent}
use Rattle.venue_rules.specs.Run.{Input, Outcome, answer_input, replies_to, run}
use Rattle.venue_rules.specs.Lawful.{HappenedAfter, IsHitOf, shown_then}

-- The evidence for each trade in a room, in one place.

-- the answer to the message that opened a room was the request to each of its recipients, and nothing else (17 CFR
-- 37.9(a)(3))
pub record AskedTogether (m : Market) (is : List Input) (asked : Room) : Type 0 where
  pub earlier : List Input
  pub input : Input
  pub later : List Input
  pub taken : is ≡ earlier ++ (input ∷ later)
  pub opened : Contains (answer_input m (run m earlier).history input).facts (Asked asked)
  pub emitted : (answer_input m (run m earlier).history input).replies ≡ map (request_sent m asked) asked.recipients

-- the room had a first quote among these facts; right before it was sent on, the requester was shown what rested in the
-- book then (17 CFR 37.9(a)(3))
pub record ShownWithFirst (m : Market) (o : Outcome) (facts : List Fact) (asked : Room) : Type 0 where
  pub first : RoomQuote
  pub before : List Fact
  pub came : HappenedAfter facts before (Quoted first)
  pub here : first.room ≡ asked.number
  pub none_before : first_quote before asked.number ≡ None
  pub replies_before : List Reply
  pub replies_after : List Reply
  pub shown : replies_to asked.requester o.replies ≡ replies_before ++ (shown_then m before asked ∷ quote_sent m asked first ∷ replies_after)

-- a trade in a room after these facts: the requester had asked three participants unrelated to it and to each other,
-- all recipients in one answer. It traded with one of them, at a live quote, what it had asked for. It had been shown
-- the book with the first quote (17 CFR 37.9(a)(2), (a)(3)).
pub record RoomTradeIsLawful (m : Market) (is : List Input) (before : List Fact) (trade : Trade) (room quote : ℕ) : Type 0 where
  pub asked : Room
  pub hit : RoomQuote
  pub was_asked : Contains before (Asked asked)
  pub was_quoted : Contains before (Quoted hit)
  pub number : asked.number ≡ room
  pub quote_number : hit.number ≡ quote
  pub quoted_here : hit.room ≡ room
  pub three_unrelated : ThreeUnrelated m.participants asked.requester asked.recipients
  pub maker_was_asked : Contains asked.recipients hit.maker
  pub live : is_live before trade.moment hit ≡ true
  pub instrument : trade.instrument ≡ asked.instrument
  pub quantity : trade.quantity ≡ asked.quantity
  pub at_the_quote : IsHitOf trade asked hit
  pub asked_together : AskedTogether m is asked
  pub shown_with_first : ShownWithFirst m (run m is) before asked

abbrev pub RoomTradesAreLawful : Market → List Input → Type 0
RoomTradesAreLawful m is = (before : List Fact) (trade : Trade) (room quote : ℕ) → HappenedAfter (run m is).history.facts before (Traded trade) → trade.place ≡ InRoom room quote → RoomTradeIsLawful m is before trade room quote

-- no room trades twice
abbrev pub RoomsTradeOnce : List Fact → Type 0
RoomsTradeOnce facts = (before : List Fact) (first second : Trade) (room quote other : ℕ) → HappenedAfter facts before (Traded second) → Contains before (Traded first) → first.place ≡ InRoom room quote → second.place ≡ InRoom room other → ⊥
