-- What is found of a trade among the events of its day, so that its lines are complete.
use Rattle.std.specs.Prelude.{◌≡◌, ℕ, ℤ, ◌-◌, min, true, false, List, ◌∷◌, ◌++◌, Contains, Option, None, Some, filter, find, length, map, slice_get}
use Rattle.fix_dictionary.specs.declared.messages.App.{App}
use Rattle.fix_dictionary.specs.declared.messages.App.TheVariants.{OrderCancelReplaceRequest}
use Rattle.participants.specs.Relations.{are_unrelated}
use Rattle.instruments.specs.Listing.{symbol_of}
use Rattle.sef_moment.specs.Utc.{greatest}
use Rattle.venue_rules.specs.declared.facts.Entry.{Entry}
use Rattle.venue_rules.specs.declared.facts.Fact.{Fact}
use Rattle.venue_rules.specs.declared.facts.Fact.TheVariants.{Asked as RoomAsked, Entered, Held, Traded}
use Rattle.venue_rules.specs.declared.facts.HeldSide.{HeldSide}
use Rattle.venue_rules.specs.declared.facts.TradeSource.TheVariants.{Book as InBook, Room as InRoom}
use Rattle.venue_rules.specs.declared.facts.Room.{Room}
use Rattle.venue_rules.specs.declared.facts.Trade.{Trade}
use Rattle.venue_rules.specs.declared.trail.TradeFact.{TradeFact}
use Rattle.venue_rules.specs.declared.trail.TrailRow.{TrailRow}
use Rattle.venue_rules.specs.Book.{is_linked}
use Rattle.venue_rules.specs.Facts.{trades}
use Rattle.venue_rules.specs.Market.{Market}
use Rattle.venue_rules.specs.Readings.{trade_fact}
use Rattle.venue_rules.specs.Rooms.{printed}
use Rattle.venue_rules.specs.Run.{Input, Message, Tick, answer_input, run}
use Rattle.trade_reconstruction.specs.declared.entry.Entry.{Entry as OrderEntry}
use Rattle.trade_reconstruction.specs.declared.finding.Query.TheVariants.{HeldSide as SideHeld, Hit, Request}
use Rattle.trade_reconstruction.specs.declared.standing.Met.{Met}
use Rattle.trade_reconstruction.specs.declared.unrelated.Three.{Three}
use Rattle.trade_reconstruction.specs.declared.evidence_event.Asked.{Asked}
use Rattle.trade_reconstruction.specs.declared.evidence_event.Held.{Held as HeldEvent}
use Rattle.trade_reconstruction.specs.declared.evidence_event.Hit.{Hit as HitEvent}
use Rattle.trade_reconstruction.specs.declared.evidence_event.EventKind.TheVariants as said
use Rattle.trade_reconstruction.specs.declared.evidence_event.EvidenceEvent.{EvidenceEvent}
use Rattle.trade_reconstruction.specs.Lines.{both_lines, entries_linked, evidence, is_asked, is_sought, last_lines, link_id, request_line, three_line, three_text, trade_row, words_lines}
use Rattle.trade_reconstruction.specs.Standing.{prices_of, stood_words}

-- a row, and its input, whose answer added this fact
pub record CameAt (m : Market) (rs : List TrailRow) (is : List Input) (row : TrailRow) (input : Input) (fact : Fact) : Type 0 where
  pub earlier : List Input
  pub later : List Input
  pub taken : is ≡ earlier ++ input ∷ later
  pub emitted : slice_get rs (length earlier) ≡ Some row
  pub made : Contains (answer_input m (run m earlier).history input).facts fact

-- the request of a trade's room is found: the trade's evidence is the line of this request, the line that names three
-- recipients, the other lines of its room, and the line of the trade at its row; it states what was asked for when the
-- room was opened, and by whom, at the row and the moment of that message; the recipients in the events are the room's;
-- and the three that are named are recipients, unrelated to the requester and to each other
pub record HasRequest (m : Market) (rs : List TrailRow) (is : List Input) (words : List EvidenceEvent) (t : TradeFact) (room : ℕ) : Type 0 where
  pub word : EvidenceEvent
  pub asked : Asked
  pub found : find (is_sought (Request room)) words ≡ Some word
  pub says : word.said ≡ said.Asked asked
  pub here : asked.room ≡ room
  pub lines : (stood : List EvidenceEvent) (noted : List ℕ) → evidence m rs words stood noted t ≡ (request_line rs m.participants word asked ++ (three_line m.participants words word asked ++ words_lines rs m.participants words asked)) ++ (noted ++ last_lines m rs t (trade_row words t))
  pub opened : Room
  pub row : TrailRow
  pub input : Input
  pub trigger : CameAt m rs is row input (RoomAsked opened)
  pub number : opened.number ≡ room
  pub at_row : word.row ≡ row.n
  pub moment : word.moment ≡ row.moment
  pub requester : asked.requester ≡ opened.requester
  pub request : asked.request ≡ opened.id
  pub symbol : asked.symbol ≡ symbol_of m.instruments opened.instrument
  pub side : asked.side ≡ opened.side
  pub quantity : asked.quantity ≡ opened.quantity
  pub recipients : map (λ (w : EvidenceEvent). w.to) (filter (is_asked room) words) ≡ opened.recipients
  pub three : Three
  pub named : three_line m.participants words word asked ≡ three_text m.participants opened.requester three word.row
  pub are_asked : Contains opened.recipients three.first × Contains opened.recipients three.second × Contains opened.recipients three.third
  pub unrelated : are_unrelated m.participants opened.requester three.first three.second three.third ≡ true

-- the hit that made a trade in a room is found, with its quote and its price
pub record HasHit (words : List EvidenceEvent) (number quote : ℕ) (trade : Trade) : Type 0 where
  pub event : EvidenceEvent
  pub found : find (is_sought (Hit number)) words ≡ Some event
  pub hit : HitEvent
  pub says : event.said ≡ said.Hit hit
  pub quote_is : hit.quote ≡ printed 81 quote
  pub price_is : hit.price ≡ trade.price

-- a trade is reported at the row of the input that made it, in a room with the hit of its quote
pub record HasRow (m : Market) (rs : List TrailRow) (is : List Input) (words : List EvidenceEvent) (number : ℕ) (t : TradeFact) : Type 0 where
  pub trade : Trade
  pub numbered : slice_get (trades (run m is).history.facts) (number - 1) ≡ Some trade
  pub read_back : t ≡ trade_fact number trade
  pub row : TrailRow
  pub input : Input
  pub made : CameAt m rs is row input (Traded trade)
  pub hit : (room quote : ℕ) → trade.place ≡ InRoom room quote → HasHit words number quote trade
  pub at_row : trade_row words t ≡ row.n

-- the price in an order's line: a held side, which enters at a tick, is reported without one
abbrev pub price_emitted : Input → Entry → Option ℤ
price_emitted (Message taken t) e = Some e.order.price
price_emitted (Tick t) e = None

-- the moment in an order's line: a held side entered at the end of its delay, which may be before the tick
abbrev pub moment_emitted : Input → Entry → ℕ
moment_emitted (Message taken t) e = e.moment
moment_emitted (Tick t) e = min e.moment greatest

-- the identifier of the order that an order replaces
abbrev pub original_of : App → Option (List ℕ)
original_of (OrderCancelReplaceRequest d) = Some d.original_id
original_of _ = None

abbrev pub original_emitted : Input → Option (List ℕ)
original_emitted (Message taken t) = original_of taken.item.app
original_emitted (Tick t) = None

-- an order that enters at a tick is the second side of the cross that its line names (548)
pub record CrossedAs (m : Market) (is : List Input) (words : List EvidenceEvent) (e : Entry) (x : OrderEntry) : Type 0 where
  pub side : HeldSide
  pub held : Contains (run m is).history.facts (Held side)
  pub order : e.order ≡ side.order
  pub hold : EvidenceEvent
  pub reported : HeldEvent
  pub found : find (is_sought (SideHeld x.to x.entered.id)) words ≡ Some hold
  pub says : hold.said ≡ said.Held reported
  pub cross : reported.cross ≡ side.cross

abbrev pub HeldAs : Market → List Input → List EvidenceEvent → Input → Entry → OrderEntry → Type 0
HeldAs m is words (Message taken t) e x = x.entered.at_tick ≡ false
HeldAs m is words (Tick t) e x = CrossedAs m is words e x

-- an order's lines state the order as it entered, at the row at which it did; the link is the one that it carries, or
-- that of the order it replaces, which is found by the identifier that the message names
pub record EmitsOrder (m : Market) (rs : List TrailRow) (is : List Input) (words : List EvidenceEvent) (e : Entry) (x : OrderEntry) : Type 0 where
  pub row : TrailRow
  pub input : Input
  pub trigger : CameAt m rs is row input (Entered e)
  pub at_row : x.row ≡ row.n
  pub moment : x.moment ≡ moment_emitted input e
  pub whose : x.to ≡ e.order.who
  pub number : x.entered.order ≡ e.number
  pub id : x.entered.id ≡ e.order.id
  pub symbol : x.entered.symbol ≡ symbol_of m.instruments e.order.instrument
  pub side : x.entered.side ≡ e.order.side
  pub quantity : x.entered.quantity ≡ e.order.quantity
  pub price : x.entered.price ≡ price_emitted input e
  pub link : link_id x.entered.link ≡ e.order.link
  pub original : x.entered.original ≡ original_emitted input
  pub held : HeldAs m is words input e x

-- an order that is filled
abbrev pub met_emitted : Market → Entry → Met
met_emitted m e = record { resting = e.number; side = e.order.side; symbol = symbol_of m.instruments e.order.instrument; who = e.order.who }

-- the events about what rested before the order that a trade filled state what rested then: of the book that the venue
-- would have shown just before that row, the orders before it on its side, and their count
pub record HasStanding (m : Market) (rs : List TrailRow) (is : List Input) (stood : List EvidenceEvent) (trade : Trade) (rested : Entry) : Type 0 where
  pub row : TrailRow
  pub input : Input
  pub made : CameAt m rs is row input (Traded trade)
  pub said : stood ≡ stood_words row.n row.moment (met_emitted m rested) (prices_of m (run m made.earlier).history (symbol_of m.instruments rested.order.instrument))

-- both orders of a trade in the book are found: its evidence is the lines of the resting order, of the entering one, of
-- both together, and of the trade; what is said of both and of the trade has the row at which the second entered, and
-- whether they are linked is what the rules say
pub record HasOrders (m : Market) (rs : List TrailRow) (is : List Input) (words stood : List EvidenceEvent) (number : ℕ) (t : TradeFact) : Type 0 where
  pub trade : Trade
  pub rested : Entry
  pub entered : Entry
  pub numbered : slice_get (trades (run m is).history.facts) (number - 1) ≡ Some trade
  pub read_back : t ≡ trade_fact number trade
  pub between : trade.place ≡ InBook rested.number entered.number
  pub resting : OrderEntry
  pub entering : OrderEntry
  pub emits_rested : EmitsOrder m rs is words rested resting
  pub emits_entered : EmitsOrder m rs is words entered entering
  pub linked : entries_linked m.participants resting entering ≡ is_linked m rested.order entered.order
  pub lines : (noted : List ℕ) → evidence m rs words stood noted t ≡ both_lines rs m.participants words stood (record { resting = resting; entering = entering; row = entering.row }) ++ (noted ++ last_lines m rs t entering.row)
  pub standing : HasStanding m rs is stood trade rested
