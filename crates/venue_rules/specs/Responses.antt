use Rattle.std.specs.Prelude.{ℕ, Bool, false, not, ◌||◌, ◌==◌, nat_lt, ℤ, List, [], ◌∷◌, Option, Some, None}
use Rattle.fix_dictionary.specs.declared.messages.QuoteResponse.{QuoteResponse}
use Rattle.fix_dictionary.specs.declared.values.Side.{Side}
use Rattle.fix_dictionary.specs.declared.values.Side.TheVariants.{Buy, Sell}
use Rattle.venue_rules.specs.declared.facts.Fact.TheVariants.{Traded, Closed, Withdrawn as WithdrawnFact}
use Rattle.venue_rules.specs.declared.facts.TradeSource.TheVariants.{Room as InRoom}
use Rattle.venue_rules.specs.declared.facts.Room.{Room}
use Rattle.venue_rules.specs.declared.facts.RoomQuote.{RoomQuote}
use Rattle.venue_rules.specs.declared.facts.Trade.{Trade}
use Rattle.venue_rules.specs.declared.refusals.BusinessRefusal.TheVariants.{SideMissing}
use Rattle.venue_rules.specs.declared.refusals.ResponseRefusal.TheVariants.{UnsupportedResponse, NotYours, Side as WrongSide, InvalidPrice}
use Rattle.venue_rules.specs.declared.replies.QuoteState.{QuoteState}
use Rattle.venue_rules.specs.declared.replies.QuoteState.TheVariants.{Expired, NotFound, Passed, ResponseRefused, Withdrawn}
use Rattle.venue_rules.specs.declared.replies.Reply.{Reply}
use Rattle.venue_rules.specs.declared.replies.ReplyBody.TheVariants.{QuoteStatus, RoomTraded}
use Rattle.instruments.specs.Listing.{symbol_of}
use Rattle.venue_rules.specs.Market.{Market}
use Rattle.venue_rules.specs.Facts.{History, next_trade}
use Rattle.venue_rules.specs.Book.{is_side, opposite}
use Rattle.venue_rules.specs.Rooms.{find_quote, is_closed, is_replaced, is_withdrawn, room_by_number}
use Rattle.venue_rules.specs.Entering.{buyer}
use Rattle.venue_rules.specs.Withdrawals.{to_maker}
use Rattle.venue_rules.specs.Answer.{Answer, Sender, answers, first_of, numbered, reply, business_reject}

-- the status sent to the sender: 117 and 693 as sent, and of a room of its own the request and the instrument
abbrev pub response_status : Sender → QuoteResponse → Option (List ℕ) → Option (List ℕ) → QuoteState → Reply
response_status s d request symbol state = reply s.who (QuoteStatus (record { quote_id = Some d.quote_id; request_id = request; response_id = Some d.response_id; symbol = symbol; state = state }))

-- the requester's side of a trade: the side asked for, or the one that the response names where both were asked for
abbrev pub taken_side : Option Side → Option Side → Option Side
taken_side (Some asked) given = Some asked
taken_side None given = given

abbrev pub is_other_side : Option Side → Option Side → Bool
is_other_side (Some asked) (Some given) = not (is_side asked given)
is_other_side _ _ = false

-- a buyer takes the offer, a seller the bid
abbrev pub price_for : Side → RoomQuote → Option ℤ
price_for Buy q = q.offer
price_for Sell q = q.bid

-- the requester passes: a status goes to it and to the maker, and the quote counts as withdrawn
abbrev pub passed : Market → Sender → Room → RoomQuote → QuoteResponse → Answer
passed m s r q d = record {
  facts = WithdrawnFact (record { quote = q.number }) ∷ [];
  replies = response_status s d (Some r.id) (Some (symbol_of m.instruments r.instrument)) Passed ∷ to_maker m r q Passed ∷ [];
}

abbrev pub room_report : Market → Room → ℕ → ℕ → Side → ℤ → Option (List ℕ) → ℕ → Reply
room_report m r trade who side price response n = reply who (RoomTraded (record { report = n; room = r.number; symbol = symbol_of m.instruments r.instrument; side = side; quantity = r.quantity; price = price; trade = trade; response_id = response }))

-- the trade of a hit: the requested quantity, at the quote's price for the requester's side
abbrev pub hit_trade : Sender → Room → RoomQuote → Side → ℤ → ℕ → Trade
hit_trade s r q side price t = record { instrument = r.instrument; quantity = r.quantity; price = price; buyer = buyer side s.who q.maker; seller = buyer side q.maker s.who; place = InRoom r.number q.number; moment = t }

-- a trade, which closes the room (17 CFR 37.9(a)(2), (a)(3))
abbrev pub room_traded : Market → History → Sender → Room → RoomQuote → QuoteResponse → Side → ℤ → ℕ → Answer
room_traded m h s r q d side price t =
    let trade = next_trade h.facts in
    record {
      facts = Traded (hit_trade s r q side price t) ∷ Closed (record { room = r.number }) ∷ [];
      replies = numbered h.reports (room_report m r trade s.who side price (Some d.response_id) ∷ room_report m r trade q.maker (opposite side) price None ∷ []);
    }

-- a hit on a live quote, by the requester's side and the quote's price for it
abbrev pub answer_hit_at : Market → History → Sender → Room → RoomQuote → QuoteResponse → ℕ → Side → Option ℤ → Answer
answer_hit_at m h s r q d t side None = answers (response_status s d (Some r.id) (Some (symbol_of m.instruments r.instrument)) (ResponseRefused InvalidPrice) ∷ [])
answer_hit_at m h s r q d t side (Some price) = room_traded m h s r q d side price t

abbrev pub answer_hit : Market → History → Sender → Room → RoomQuote → QuoteResponse → ℕ → Option Side → Answer
answer_hit m h s r q d t None = business_reject s SideMissing
answer_hit m h s r q d t (Some side) = answer_hit_at m h s r q d t side (price_for side q)

-- checks before a hit: the room is another's, the quote is gone, the requester passes it, or names the other side
abbrev pub response_refusals : Market → History → Sender → Room → RoomQuote → QuoteResponse → ℕ → List (Bool × Answer)
response_refusals m h s r q d t =
    let say : QuoteState → Answer = λ state. answers (response_status s d (Some r.id) (Some (symbol_of m.instruments r.instrument)) state ∷ []) in
    (not (r.requester == s.who), answers (response_status s d None None (ResponseRefused NotYours) ∷ []))
    ∷ (is_closed h.facts r.number || is_replaced h.facts q, say NotFound)
    ∷ (is_withdrawn h.facts q.number, say Withdrawn)
    ∷ (nat_lt q.end t, say Expired)
    ∷ (d.response_type == 6, passed m s r q d)
    ∷ (is_other_side r.side d.side, say (ResponseRefused WrongSide))
    ∷ []

-- the answer about a quote that exists, by its room
abbrev pub answer_response_in : Market → History → Sender → RoomQuote → QuoteResponse → ℕ → Option Room → Answer
answer_response_in m h s q d t None = answers (response_status s d None None NotFound ∷ [])
answer_response_in m h s q d t (Some r) = first_of (response_refusals m h s r q d t) (answer_hit m h s r q d t (taken_side r.side d.side))

-- the answer by the quote named
abbrev pub answer_response_to : Market → History → Sender → QuoteResponse → ℕ → Option RoomQuote → Answer
answer_response_to m h s d t None = answers (response_status s d None None NotFound ∷ [])
answer_response_to m h s d t (Some q) = answer_response_in m h s q d t (room_by_number h.facts q.room)

-- 694 has to be 1, a hit, or 6, a pass
abbrev pub kind_refusals : Sender → QuoteResponse → List (Bool × Answer)
kind_refusals s d = (not (d.response_type == 1 || d.response_type == 6), answers (response_status s d None None (ResponseRefused UnsupportedResponse) ∷ [])) ∷ []

-- the answer to a QuoteResponse (AJ)
abbrev pub answer_response : Market → History → Sender → QuoteResponse → ℕ → Answer
answer_response m h s d t = first_of (kind_refusals s d) (answer_response_to m h s d t (find_quote h.facts d.quote_id))
