-- Laws of every day, whatever its inputs.
use Rattle.std.specs.Prelude.{◌≡◌, ℕ, List, ◌∷◌, ◌++◌, map, length, slice_get, Contains, Option, None, Some, true, false}
use Rattle.participants.specs.Relations.{name_of}
use Rattle.venue_rules.specs.declared.facts.Fact.{Fact}
use Rattle.venue_rules.specs.declared.facts.Fact.TheVariants as fact
use Rattle.venue_rules.specs.declared.facts.Room.{Room}
use Rattle.venue_rules.specs.declared.facts.RoomQuote.{RoomQuote}
use Rattle.venue_rules.specs.declared.trail.TradeFact.{TradeFact}
use Rattle.venue_rules.specs.declared.trail.TrailRow.{TrailRow}
use Rattle.venue_rules.specs.Market.{Market}
use Rattle.venue_rules.specs.Facts.{History}
use Rattle.venue_rules.specs.Rooms.{find_quote, first_quote, is_closed, is_live, printed, room_by_number}
use Rattle.venue_rules.specs.Book.{picture}
use Rattle.venue_rules.specs.declared.replies.SnapshotEntry.{SnapshotEntry}
use Rattle.venue_rules.specs.Run.{Input, answer_input, run}
use Rattle.venue_core.specs.Replay.{AreEmitted}
use Rattle.trade_reconstruction.specs.declared.evidence_event.Asked.{Asked}
use Rattle.trade_reconstruction.specs.declared.evidence_event.EventKind.TheVariants as said
use Rattle.trade_reconstruction.specs.declared.evidence_event.EvidenceEvent.{EvidenceEvent}
use Rattle.trade_reconstruction.specs.declared.evidence_event.Quoted.{Quoted}
use Rattle.trade_reconstruction.specs.declared.quote_note.Fate.TheVariants as fate
use Rattle.trade_reconstruction.specs.Found.{HasOrders, HasRequest, HasRow}
use Rattle.trade_reconstruction.specs.EventKinds.{shown_word, word}
use Rattle.trade_reconstruction.specs.QuoteNotes.{fate_at, fate_by}
use Rattle.trade_reconstruction.specs.Emitted.{stood_emitted, trade_numbered, words_emitted}
use Rattle.trade_reconstruction.specs.Lines.{at_text, moment_text, sent_at, sent_in}

-- the events of a day have the request of each room trade
abbrev pub RoomTradesHaveRequests : Type 0
RoomTradesHaveRequests = (m : Market) (rs : List TrailRow) (is : List Input) (number room : ℕ) (t : TradeFact) → AreEmitted rs is → trade_numbered (run m is).history number ≡ Some t → t.room ≡ Some room
    → HasRequest m rs is (words_emitted m rs is) t room

-- the events of a day have both orders of each trade in the book
abbrev pub BookTradesHaveOrders : Type 0
BookTradesHaveOrders = (m : Market) (rs : List TrailRow) (is : List Input) (number : ℕ) (t : TradeFact) → AreEmitted rs is → trade_numbered (run m is).history number ≡ Some t → t.room ≡ None
    → HasOrders m rs is (words_emitted m rs is) (stood_emitted m number rs is) number t

-- what is said of a quote in a room that has not traded is what had become of it by the facts
abbrev pub FatesAreRight : Type 0
FatesAreRight = (m : Market) (h : History) (a : Asked) (t quote : ℕ) (q : RoomQuote) (r : Room) → find_quote h.facts (printed 81 quote) ≡ Some q → room_by_number h.facts q.room ≡ Some r → r.requester ≡ a.requester → is_closed h.facts r.number ≡ false
    → fate_at m h a t quote ≡ Some (fate_by h.facts t q)

-- it is said to be live if and only if it may be hit
pub record LiveQuotesAreLive : Type 0 where
  pub live : (facts : List Fact) (t : ℕ) (q : RoomQuote) → is_closed facts q.room ≡ false → fate_by facts t q ≡ fate.Live → is_live facts t q ≡ true
  pub reported : (facts : List Fact) (t : ℕ) (q : RoomQuote) → is_live facts t q ≡ true → fate_by facts t q ≡ fate.Live

-- a quote as it is sent to the requester of its room, with its maker's own identifier
abbrev pub quoted_as : Market → Room → RoomQuote → Option (List ℕ) → Quoted
quoted_as m r q id = record { request = r.id; quote = q.number; maker = name_of m.participants q.maker; bid = q.bid; offer = q.offer; end = q.end; id = id }

-- an event reports the quote to the requester of its room
pub record IsReported (m : Market) (facts : List Fact) (words : List EvidenceEvent) (q : RoomQuote) : Type 0 where
  pub asked : Room
  pub was_asked : Contains facts (fact.Asked asked)
  pub here : asked.number ≡ q.room
  pub event : EvidenceEvent
  pub reported : Contains words event
  pub to : event.to ≡ asked.requester
  pub id : Option (List ℕ)
  pub says : event.said ≡ said.Quoted (quoted_as m asked q id)

-- the events of a day have each quote, so that the evidence for a trade in its room has its line, and says what had
-- become of it
abbrev pub QuotesAreReported : Type 0
QuotesAreReported = (m : Market) (rs : List TrailRow) (is : List Input) (q : RoomQuote) → AreEmitted rs is → Contains (run m is).history.facts (fact.Quoted q) → IsReported m (run m is).history.facts (words_emitted m rs is) q

-- the events that show resting orders to a requester, and their count
abbrev pub shown_words : ℕ → ℕ → ℕ → List ℕ → List SnapshotEntry → List EvidenceEvent
shown_words row moment to request entries = word row moment to (said.SnapshotSent (record { request = request; count = length entries })) ∷ map (shown_word row moment to request) entries

-- the events at the row of a quote show the requester of its room what rested in the book of the instrument then
pub record IsShown (m : Market) (rs : List TrailRow) (is : List Input) (words : List EvidenceEvent) (q : RoomQuote) : Type 0 where
  pub earlier : List Input
  pub input : Input
  pub later : List Input
  pub taken : is ≡ earlier ++ input ∷ later
  pub row : TrailRow
  pub emitted : slice_get rs (length earlier) ≡ Some row
  pub quoted : Contains (answer_input m (run m earlier).history input).facts (fact.Quoted q)
  pub asked : Room
  pub was_asked : Contains (run m earlier).history.facts (fact.Asked asked)
  pub here : asked.number ≡ q.room
  pub before : List EvidenceEvent
  pub after : List EvidenceEvent
  pub shown : words ≡ before ++ (shown_words row.n row.moment asked.requester asked.id (picture (run m earlier).history.facts asked.instrument) ++ after)

-- the events of a day show every resting order with the first quote of a room (17 CFR 37.9(a)(3))
abbrev pub RestingOrdersAreShown : Type 0
RestingOrdersAreShown = (m : Market) (rs : List TrailRow) (is : List Input) (q : RoomQuote) → AreEmitted rs is → Contains (run m is).history.facts (fact.Quoted q) → first_quote (run m is).history.facts q.room ≡ Some q
    → IsShown m rs is (words_emitted m rs is) q

-- each trade is reported at the row at which it was made
abbrev pub TradesHaveRows : Type 0
TradesHaveRows = (m : Market) (rs : List TrailRow) (is : List Input) (number : ℕ) (t : TradeFact) → AreEmitted rs is → trade_numbered (run m is).history number ≡ Some t → HasRow m rs is (words_emitted m rs is) number t

-- no two rows have one number
abbrev pub AreDistinct : List TrailRow → Type 0
AreDistinct rs = (j k : ℕ) (a b : TrailRow) → slice_get rs j ≡ Some a → slice_get rs k ≡ Some b → a.n ≡ b.n → j ≡ k

-- where no two rows have one number, the message in a line is that of its row, and so is the moment of a trade
pub record IsOfRow (rs : List TrailRow) (row : TrailRow) : Type 0 where
  pub message : sent_at rs row.n ≡ sent_in row
  pub moment : moment_text rs row.n ≡ at_text row.moment

abbrev pub MessagesAreOfRows : Type 0
MessagesAreOfRows = (rs : List TrailRow) (k : ℕ) (row : TrailRow) → AreDistinct rs → slice_get rs k ≡ Some row → IsOfRow rs row
