-- What had become of each quote in a room just before a trade there, and which quotes had ended by the reports to the
-- requester.
use Rattle.std.specs.Prelude.{ℕ, ℤ, ◌==◌, nat_lt, Bool, true, false, ◌&&◌, List, [], ◌∷◌, find, Option, Some, None, bytes_eq, if◌then◌else◌}
use Rattle.std.specs.List.{flat_map}
use Rattle.fix_dictionary.specs.declared.values.Side.{Side}
use Rattle.fix_dictionary.specs.declared.values.Side.TheVariants.{Buy, Sell}
use Rattle.fix_dictionary.specs.declared.messages.App.{App}
use Rattle.fix_dictionary.specs.declared.messages.App.TheVariants.{QuoteResponse}
use Rattle.venue_rules.specs.declared.facts.Fact.{Fact}
use Rattle.venue_rules.specs.declared.facts.RoomQuote.{RoomQuote}
use Rattle.venue_rules.specs.declared.replies.QuoteState.{QuoteState}
use Rattle.venue_rules.specs.declared.replies.QuoteState.TheVariants as state
use Rattle.venue_rules.specs.declared.replies.QuoteStatus.{QuoteStatus}
use Rattle.venue_rules.specs.declared.replies.Reply.{Reply}
use Rattle.venue_rules.specs.declared.replies.ReplyBody.{ReplyBody}
use Rattle.venue_rules.specs.declared.replies.ReplyBody.TheVariants as what
use Rattle.venue_rules.specs.declared.trail.Taken.{Taken}
use Rattle.venue_rules.specs.declared.trail.TrailRow.{TrailRow}
use Rattle.venue_rules.specs.Facts.{History}
use Rattle.venue_rules.specs.Market.{Market}
use Rattle.venue_rules.specs.Rooms.{is_replaced, is_withdrawn, printed}
use Rattle.venue_rules.specs.Run.{Input, Message, Tick, answer_input}
use Rattle.trade_reconstruction.specs.declared.evidence_event.Asked.{Asked}
use Rattle.trade_reconstruction.specs.declared.evidence_event.Quoted.{Quoted}
use Rattle.trade_reconstruction.specs.declared.evidence_event.EventKind.{EventKind}
use Rattle.trade_reconstruction.specs.declared.evidence_event.EventKind.TheVariants as said
use Rattle.trade_reconstruction.specs.declared.evidence_event.EvidenceEvent.{EvidenceEvent}
use Rattle.trade_reconstruction.specs.declared.finding.Query.TheVariants.{Request}
use Rattle.trade_reconstruction.specs.declared.quote_note.Fate.{Fate}
use Rattle.trade_reconstruction.specs.declared.quote_note.Fate.TheVariants as fate
use Rattle.trade_reconstruction.specs.declared.quote_note.HitAt.{HitAt}
use Rattle.trade_reconstruction.specs.declared.quote_note.QuoteFate.{QuoteFate}
use Rattle.trade_reconstruction.specs.declared.quote_note.Ended.{Ended}
use Rattle.trade_reconstruction.specs.Lines.{is_sought, is_to}

-- Quotes that ended by a report to the requester: passed, in answer to its own message, or withdrawn, in answer to the
-- maker's.

abbrev pub ended_state : ℕ → ℕ → QuoteState → Option Bool
ended_state from to state.Passed = if to == from then Some true else None
ended_state from to state.Withdrawn = if to == from then None else Some false
ended_state from to _ = None

abbrev pub ended_ids : TrailRow → ℕ → Bool → Option (List ℕ) → Option (List ℕ) → List Ended
ended_ids r to is_passed (Some request) (Some quote) = record { row = r.n; requester = to; request = request; quote = quote; is_passed = is_passed } ∷ []
ended_ids r to is_passed _ _ = []

abbrev pub ended_as : TrailRow → ℕ → QuoteStatus → Option Bool → List Ended
ended_as r to s None = []
ended_as r to s (Some is_passed) = ended_ids r to is_passed s.request_id s.quote_id

abbrev pub ended_what : TrailRow → ℕ → ℕ → ReplyBody → List Ended
ended_what r from to (what.QuoteStatus s) = ended_as r to s (ended_state from to s.state)
ended_what r from to _ = []

abbrev pub ended_by : TrailRow → ℕ → Reply → List Ended
ended_by r from x = ended_what r from x.to x.what

-- at a row, by the replies to its message
abbrev pub ended_at : TrailRow → Option Taken → List Reply → List Ended
ended_at r None replies = []
ended_at r (Some taken) replies = flat_map (ended_by r taken.from) replies

-- The room of the trade with a number, if these replies report it there.

abbrev pub room_what : ℕ → ReplyBody → Option ℕ
room_what number (what.RoomTraded r) = if r.trade == number then Some r.room else None
room_what number _ = None

abbrev pub earlier : Option ℕ → Option ℕ → Option ℕ
earlier None now = now
earlier (Some room) now = Some room

abbrev pub room_after : ℕ → Option ℕ → List Reply → Option ℕ
room_after number room [] = room
room_after number room (r ∷ rs) = room_after number (earlier room (room_what number r.what)) rs

-- What had become of a quote.

-- the requester passes a quote (694=6)
abbrev pub passes : Asked → ℕ → Taken
passes a quote = record {
  from = a.requester;
  item = record { era = 1; number = 1; app = QuoteResponse (record { response_id = a.request; quote_id = printed 81 quote; response_type = 6; side = None }) };
}

abbrev pub fate_state : QuoteState → Option Fate
fate_state state.Passed = Some fate.Live
fate_state state.NotFound = Some fate.Replaced
fate_state state.Withdrawn = Some fate.Withdrawn
fate_state state.Expired = Some fate.RunOut
fate_state _ = None

abbrev pub fate_what : ReplyBody → Option Fate
fate_what (what.QuoteStatus s) = fate_state s.state
fate_what _ = None

abbrev pub fate_in : List Reply → Option Fate
fate_in [] = None
fate_in (r ∷ rs) = fate_what r.what

-- what the rules would have answered, had the requester passed it at that moment
abbrev pub fate_at : Market → History → Asked → ℕ → ℕ → Option Fate
fate_at m h a t quote = fate_in (answer_input m h (Message (passes a quote) t)).replies

-- the same by the facts: its maker quoted again in the room, it was withdrawn or passed, its end has passed, or none of
-- these
abbrev pub fate_by : List Fact → ℕ → RoomQuote → Fate
fate_by facts t q = if is_replaced facts q then fate.Replaced else if is_withdrawn facts q.number then fate.Withdrawn else if nat_lt q.end t then fate.RunOut else fate.Live

abbrev pub is_hit : Option (List ℕ) → ℕ → Bool
is_hit None quote = false
is_hit (Some id) quote = bytes_eq (printed 81 quote) id

-- the newest report of the end of a quote that was withdrawn or passed, also before its maker quoted again

abbrev pub is_end_of : Asked → ℕ → Ended → Bool
is_end_of a quote e = is_to a e.requester e.request && bytes_eq (printed 81 quote) e.quote

abbrev pub end_of : Asked → ℕ → Ended → Option Ended
end_of a quote e = if is_end_of a quote e then Some e else None

abbrev pub or : Option Ended → Option Ended → Option Ended
or None other = other
or (Some e) other = Some e

abbrev pub newest : (Ended → Option Ended) → List Ended → Option Ended
newest pick [] = None
newest pick (e ∷ es) = or (newest pick es) (pick e)

abbrev pub end_with : Asked → ℕ → List Ended → Fate → Option Ended
end_with a quote ended fate.Withdrawn = newest (end_of a quote) ended
end_with a quote ended fate.Live = None
end_with a quote ended fate.Replaced = newest (end_of a quote) ended
end_with a quote ended fate.RunOut = None

-- of a request for both sides, the side on which a quote has no price

abbrev pub lacks_offer : Option ℤ → Option Side
lacks_offer None = Some Sell
lacks_offer (Some price) = None

abbrev pub lacks_in : (bid offer : Option ℤ) → Option Side
lacks_in None offer = Some Buy
lacks_in (Some price) offer = lacks_offer offer

abbrev pub lacks : Option Side → Quoted → Option Side
lacks None q = lacks_in q.bid q.offer
lacks (Some side) q = None

abbrev pub fate_note : HitAt → Asked → List Ended → Quoted → Option Fate → List QuoteFate
fate_note x a ended q None = []
fate_note x a ended q (Some f) = record { row = x.row; quote = q.quote; maker = q.maker; is_hit = is_hit x.quote q.quote; fate = f; end = end_with a q.quote ended f; lacks = lacks a.side q } ∷ []

abbrev pub fate_said : Market → History → HitAt → Asked → List Ended → ℕ → EventKind → List QuoteFate
fate_said m h x a ended to (said.Quoted q) = if is_to a to q.request then fate_note x a ended q (fate_at m h a x.moment q.quote) else []
fate_said m h x a ended to _ = []

-- of a quote that the requester had been sent, if an event is of one
abbrev pub fate_of : Market → History → HitAt → Asked → List Ended → EvidenceEvent → List QuoteFate
fate_of m h x a ended w = fate_said m h x a ended w.to w.said

abbrev pub fates_asked : Market → History → HitAt → List EvidenceEvent → List Ended → EventKind → List QuoteFate
fates_asked m h x words ended (said.Asked a) = flat_map (fate_of m h x a ended) words
fates_asked m h x words ended _ = []

abbrev pub fates_found : Market → History → HitAt → List EvidenceEvent → List Ended → Option EvidenceEvent → List QuoteFate
fates_found m h x words ended None = []
fates_found m h x words ended (Some w) = fates_asked m h x words ended w.said

-- of each quote of a room
abbrev pub fates_in : Market → History → HitAt → List EvidenceEvent → List Ended → Option ℕ → List QuoteFate
fates_in m h x words ended None = []
fates_in m h x words ended (Some room) = fates_found m h x words ended (find (is_sought (Request room)) words)

-- the quote that a message responds to
abbrev pub responded : App → Option (List ℕ)
responded (QuoteResponse d) = Some d.quote_id
responded _ = None

abbrev pub responded_in : Option Taken → Option (List ℕ)
responded_in None = None
responded_in (Some taken) = responded taken.item.app

abbrev pub hit_at : TrailRow → Option Taken → HitAt
hit_at r taken = record { row = r.n; moment = r.moment; quote = responded_in taken }

-- the message of an input, or none of a tick
abbrev pub taken_in : Input → Option Taken
taken_in (Message taken t) = Some taken
taken_in (Tick t) = None

-- at a row, after these events and ends: where the trade with a number is made there in a room, what had become of each
-- quote of the room
abbrev pub fates_at : Market → History → ℕ → List EvidenceEvent → List Ended → TrailRow → Input → List QuoteFate
fates_at m h number words ended r i = fates_in m h (hit_at r (taken_in i)) words ended (room_after number None (answer_input m h i).replies)
