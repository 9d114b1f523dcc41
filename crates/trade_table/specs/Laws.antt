-- The law of every day: each trade has its execution, which is what the facts of the day say of it.
use Rattle.std.specs.Prelude.{◌≡◌, ℕ, List, ◌∷◌, ◌++◌, Contains, Option, None, Some, is_none, length, slice_get}
use Rattle.fix_dictionary.specs.declared.messages.App.TheVariants.{NewOrderCross}
use Rattle.fix_dictionary.specs.declared.messages.NewOrderCross.{NewOrderCross as CrossMessage}
use Rattle.venue_rules.specs.declared.facts.Entry.{Entry}
use Rattle.venue_rules.specs.declared.facts.Fact.{Fact}
use Rattle.venue_rules.specs.declared.facts.Fact.TheVariants as fact
use Rattle.venue_rules.specs.declared.facts.HeldSide.{HeldSide}
use Rattle.venue_rules.specs.declared.facts.RoomQuote.{RoomQuote}
use Rattle.venue_rules.specs.declared.facts.Trade.{Trade}
use Rattle.venue_rules.specs.declared.facts.TradeSource.{TradeSource}
use Rattle.venue_rules.specs.declared.facts.TradeSource.TheVariants.{Book as InBook, Room as InRoom}
use Rattle.venue_rules.specs.declared.trail.Taken.{Taken}
use Rattle.venue_rules.specs.declared.trail.TradeFact.{TradeFact}
use Rattle.venue_rules.specs.declared.trail.TrailRow.{TrailRow}
use Rattle.venue_rules.specs.Delay.{due}
use Rattle.venue_rules.specs.Entering.{buyer}
use Rattle.venue_rules.specs.Facts.{History}
use Rattle.venue_rules.specs.Market.{Market}
use Rattle.venue_rules.specs.Readings.{trade_fact, trade_facts}
use Rattle.venue_rules.specs.Rooms.{printed}
use Rattle.venue_rules.specs.Run.{Input, Message, Tick, answer_input, run}
use Rattle.venue_core.specs.Replay.{AreEmitted}
use Rattle.trade_table.specs.declared.execution.Execution.{Execution}
use Rattle.trade_table.specs.declared.execution.Matched.{Matched}
use Rattle.trade_table.specs.declared.execution.QuoteHit.{QuoteHit}
use Rattle.trade_table.specs.declared.execution.SideFilled.{SideFilled}
use Rattle.trade_table.specs.declared.execution.Source.{Source}
use Rattle.trade_table.specs.declared.execution.Source.TheVariants as source
use Rattle.trade_table.specs.Executions.{execution_of, executions, taken_in}
use Rattle.trade_table.specs.Table.{buying, selling}

-- the order with a number, as it entered: whose it was, under which identifier (11), and on which side
pub record IsOrder (facts : List Fact) (number : ℕ) (x : SideFilled) : Type 0 where
  pub entry : Entry
  pub entered : Contains facts (fact.Entered entry)
  pub number_is : entry.number ≡ number
  pub order : x.order ≡ number
  pub who : x.who ≡ entry.order.who
  pub id : x.id ≡ entry.order.id
  pub side : x.side ≡ entry.order.side

-- of a trade in the book both orders: the one that bought is the buyer's, and the one that sold the seller's; the
-- entering one came by a message, or else at a tick
pub record IsMatch (facts : List Fact) (input : Input) (old new : ℕ) (t : Trade) (x : Matched) : Type 0 where
  pub entering : IsOrder facts new x.entering
  pub resting : IsOrder facts old x.resting
  pub buyer : (buying x).who ≡ t.buyer
  pub seller : (selling x).who ≡ t.seller
  pub at_tick : x.at_tick ≡ is_none (taken_in input)

abbrev pub sender : Input → Option ℕ
sender (Message taken t) = Some taken.from
sender (Tick t) = None

-- of a trade in a room the quote that was hit, with its maker's own identifier of it (117); the side is that of the
-- participant who hit it
pub record IsHit (facts : List Fact) (input : Input) (quote : ℕ) (t : Trade) (x : QuoteHit) : Type 0 where
  pub quote_is : x.quote ≡ printed 81 quote
  pub quoted : RoomQuote
  pub was_quoted : Contains facts (fact.Quoted quoted)
  pub named : printed 81 quoted.number ≡ x.quote
  pub id : x.id ≡ Some quoted.id
  pub requester : ℕ
  pub maker : ℕ
  pub hit_by : sender input ≡ Some requester
  pub buyer_is : t.buyer ≡ buyer x.side requester maker
  pub seller_is : t.seller ≡ buyer x.side maker requester

abbrev pub IsSource : List Fact → Input → Trade → TradeSource → Source → Type 0
IsSource facts i t (InBook old new) (source.Book x) = IsMatch facts i old new t x
IsSource facts i t (InRoom room quote) (source.Room x) = IsHit facts i quote t x
IsSource facts i t (InBook old new) (source.Room x) = ⊥
IsSource facts i t (InRoom room quote) (source.Book x) = ⊥

-- the held side that enters by an input: at a tick the first that is due
abbrev pub side_due : History → Input → Option HeldSide
side_due h (Message taken t) = None
side_due h (Tick t) = due h.facts t

-- A cross of these inputs: a message NewOrderCross (s), the answer to which entered the order with a number, and held
-- this side with the cross's identifier (548).
pub record IsCross (m : Market) (is : List Input) (order : ℕ) (side : HeldSide) : Type 0 where
  pub earlier : List Input
  pub taken : Taken
  pub at : ℕ
  pub later : List Input
  pub inputs : is ≡ earlier ++ Message taken at ∷ later
  pub message : CrossMessage
  pub crosses : taken.item.app ≡ NewOrderCross message
  pub named : message.cross_id ≡ side.cross
  pub entry : Entry
  pub number_is : entry.number ≡ order
  pub entered : Contains (answer_input m (run m earlier).history (Message taken at)).facts (fact.Entered entry)
  pub was_held : Contains (answer_input m (run m earlier).history (Message taken at)).facts (fact.Held side)

-- both orders of a trade came from the cross with this identifier (548): the one that rested entered by it, and the
-- other was held by it, until it entered at this input
pub record CameFrom (m : Market) (before : List Input) (input : Input) (old : ℕ) (cross : List ℕ) : Type 0 where
  pub side : HeldSide
  pub was_due : side_due (run m before).history input ≡ Some side
  pub crossed : IsCross m before old side
  pub named : side.cross ≡ cross

-- the cross that is named is that from which both orders came, and there is one if and only if one is named
pub record IsCrossNamed (m : Market) (before : List Input) (input : Input) (old : ℕ) (named : Option (List ℕ)) : Type 0 where
  pub sound : (cross : List ℕ) → named ≡ Some cross → CameFrom m before input old cross
  pub complete : (cross : List ℕ) → CameFrom m before input old cross → named ≡ Some cross

-- no trade in a room came from a cross
abbrev pub AreCrossed : Market → List Input → Input → TradeSource → Source → Type 0
AreCrossed m before i (InBook old new) (source.Book x) = IsCrossNamed m before i old x.cross
AreCrossed m before i (InRoom room quote) (source.Room x) = Unit {0}
AreCrossed m before i (InBook old new) (source.Room x) = ⊥
AreCrossed m before i (InRoom room quote) (source.Book x) = ⊥

-- an execution is that of a trade: at the row of the input whose answer made it
pub record IsMade (m : Market) (rs : List TrailRow) (is : List Input) (number : ℕ) (t : Trade) (x : Execution) : Type 0 where
  pub earlier : List Input
  pub input : Input
  pub later : List Input
  pub row : TrailRow
  pub taken : is ≡ earlier ++ input ∷ later
  pub emitted : slice_get rs (length earlier) ≡ Some row
  pub made : Contains (answer_input m (run m earlier).history input).facts (fact.Traded t)
  pub number_is : x.trade ≡ number
  pub at_row : x.row ≡ row.n
  pub moment : x.moment ≡ row.moment
  pub source : IsSource (run m is).history.facts input t t.place x.source
  pub crossed : AreCrossed m earlier input t.place x.source

-- a trade has its execution, so that its ten fields are those of it, and none of them is left out
pub record HasExecution (m : Market) (rs : List TrailRow) (is : List Input) (t : TradeFact) : Type 0 where
  pub trade : Trade
  pub read_back : t ≡ trade_fact t.number trade
  pub execution : Execution
  pub found : execution_of (executions m rs is) t.number ≡ Some execution
  pub made : IsMade m rs is t.number trade execution

abbrev pub TradesHaveExecutions : Type 0
TradesHaveExecutions = (m : Market) (rs : List TrailRow) (is : List Input) (k : ℕ) (t : TradeFact) → AreEmitted rs is → slice_get (trade_facts (run m is).history.facts) k ≡ Some t → HasExecution m rs is t
