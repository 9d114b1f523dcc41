-- What each sentence says: of each type the sentences in the order in which the causes are looked for, and next to each
-- the test, in the rules' own words, for which it stands.
use Rattle.std.specs.Prelude.{◌≡◌, ℕ, ◌==◌, ◌||◌, Bool, true, false, not, nat_le, nat_lt, List, [], ◌∷◌, ◌++◌, length, Option, Some, None, is_some, is_none, bytes_eq, codes, if◌then◌else◌}
use Rattle.std.specs.List.{list_any}
use Rattle.fix_dictionary.specs.declared.messages.App.{App}
use Rattle.fix_dictionary.specs.declared.messages.App.TheVariants.{QuoteRequest, Quote, QuoteCancel, QuoteResponse, NewOrderSingle, OrderCancelRequest, OrderCancelReplaceRequest, NewOrderCross, MarketDataRequest}
use Rattle.fix_dictionary.specs.declared.messages.MarketDataRequest.{MarketDataRequest as PricesRequest}
use Rattle.fix_dictionary.specs.declared.messages.NewOrderCross.{NewOrderCross as Cross}
use Rattle.fix_dictionary.specs.declared.messages.NewOrderSingle.{NewOrderSingle as Order}
use Rattle.fix_dictionary.specs.declared.messages.OrderCancelRequest.{OrderCancelRequest as Cancel}
use Rattle.fix_dictionary.specs.declared.messages.OrderCancelReplaceRequest.{OrderCancelReplaceRequest as Replacement}
use Rattle.fix_dictionary.specs.declared.messages.Quote.{Quote as QuoteMessage}
use Rattle.fix_dictionary.specs.declared.messages.QuoteCancel.{QuoteCancel as Withdrawal}
use Rattle.fix_dictionary.specs.declared.messages.QuoteRequest.{QuoteRequest as Request}
use Rattle.fix_dictionary.specs.declared.messages.QuoteResponse.{QuoteResponse as Response}
use Rattle.instruments.specs.Listing.{instrument_of, is_off_tick, is_unknown_instrument, least_of, symbol_of}
use Rattle.participants.specs.Relations.{three_unrelated}
use Rattle.venue_rules.specs.declared.facts.HeldSide.{HeldSide}
use Rattle.venue_rules.specs.declared.facts.Room.{Room}
use Rattle.venue_rules.specs.declared.facts.RoomQuote.{RoomQuote}
use Rattle.venue_rules.specs.declared.replies.Reply.{Reply}
use Rattle.venue_rules.specs.declared.replies.ReplyBody.{ReplyBody}
use Rattle.venue_rules.specs.Book.{filled, is_side, is_side_full, too_soon}
use Rattle.venue_rules.specs.Changes.{Named, IsResting, IsHeld, IsUnknown, named, replacement}
use Rattle.venue_rules.specs.Crosses.{first_side, side_order}
use Rattle.venue_rules.specs.Delay.{due, held}
use Rattle.venue_rules.specs.Facts.{History, is_cross_id_used, is_order_id_used, is_quote_id_used, is_request_id_used}
use Rattle.venue_rules.specs.Market.{Market}
use Rattle.venue_rules.specs.Orders.{is_limit, is_unsupported_life, order_asked}
use Rattle.venue_rules.specs.Quotes.{is_absent_or, is_crossed, is_price_off_tick, lacks_price}
use Rattle.venue_rules.specs.Requests.{has_twice, named_recipients, recipients}
use Rattle.venue_rules.specs.Responses.{is_other_side, taken_side}
use Rattle.venue_rules.specs.Rooms.{find_quote, find_room, is_closed, is_open, is_replaced, is_withdrawn, live_quotes, open_rooms, room_by_number}
use Rattle.venue_rules.specs.Run.{Input, Message, Tick, answer_input}
use Rattle.refusal_causes.specs.Causes.{is_empty, is_no_response, is_of_all, is_of_one, is_pass, named_quotes, price_taken}
use Rattle.refusal_causes.specs.Places.{due_named, named_by}
use Rattle.refusal_causes.specs.Listed.{many_at, number_at}
use Rattle.refusal_causes.specs.Printed.{cause_text, verdict}
use Rattle.refusal_causes.specs.Sentences.{sentence}
use Rattle.refusal_causes.specs.Why.{count_at, place_at}

abbrev pub Meanings : Type 0
Meanings = List (List ℕ × Bool)

-- Orders (D), cancels (F), replacements (G), crosses (s).

abbrev pub order_meanings : Market → History → ℕ → Order → ℕ → Meanings
order_meanings m h who d t =
    let o = order_asked m who d in
    (codes "no instrument has its symbol (55)", is_unknown_instrument m.instruments d.symbol)
    ∷ (codes "the sender used its identifier (11) before", is_order_id_used h.facts who d.order_id)
    ∷ (codes "it is no limit order (40=2), or its time in force (59) is none of 0, 3 and 4", not (is_limit d.order_type) || is_unsupported_life d.time_in_force)
    ∷ (codes "it has no price (44)", is_none d.price)
    ∷ (codes "its price (44) is no multiple of the instrument's tick", is_off_tick m.instruments o.instrument o.price)
    ∷ (codes "its quantity (38) is below the instrument's least", nat_lt d.quantity (least_of m.instruments o.instrument))
    ∷ (codes "it would trade with a linked order that entered less than the instrument's delay before (17 CFR 37.9(b)(1), (b)(2))", is_some (too_soon m h.facts o t))
    ∷ (codes "what it does not fill would rest, but 200 orders of its side rest, and no more than 200 may", is_side_full h.facts o)
    ∷ []

-- by what it names
abbrev pub cancel_meanings : History → ℕ → Cancel → Named → Meanings
cancel_meanings h who d IsUnknown = (codes "no order of the sender that rests or is held has the identifier that it names (41)", true) ∷ []
cancel_meanings h who d _ = (codes "the sender used its identifier (11) before", is_order_id_used h.facts who d.order_id) ∷ []

abbrev pub replace_meanings : Market → History → ℕ → Replacement → ℕ → Named → Meanings
replace_meanings m h who d t IsUnknown = (codes "no order of the sender that rests or is held has the identifier that it names (41)", true) ∷ []
replace_meanings m h who d t (IsHeld k) =
    (codes "the sender used its identifier (11) before", is_order_id_used h.facts who d.order_id)
    ∷ (codes "it names a held side of a cross, which is not replaced", true)
    ∷ []
replace_meanings m h who d t (IsResting r) =
    let o = replacement d r in
    (codes "the sender used its identifier (11) before", is_order_id_used h.facts who d.order_id)
    ∷ (codes "it is no limit order (40=2)", not (is_limit d.order_type))
    ∷ (codes "it has no price (44)", is_none d.price)
    ∷ (codes "its price (44) is no multiple of the tick of the order's instrument", is_off_tick m.instruments o.instrument o.price)
    ∷ (codes "its quantity (38) is below the least of the order's instrument", nat_lt d.quantity (least_of m.instruments o.instrument))
    ∷ (codes "its quantity (38) is not above what the order has filled", nat_le d.quantity (filled r))
    ∷ (codes "it would trade with a linked order that entered less than the instrument's delay before (17 CFR 37.9(b)(1), (b)(2))", is_some (too_soon m h.facts o t))
    ∷ []

abbrev pub cross_meanings : Market → History → ℕ → Cross → ℕ → Meanings
cross_meanings m h who d t =
    let o = side_order m who d (first_side d) in
    (codes "no instrument has its symbol (55)", is_unknown_instrument m.instruments d.symbol)
    ∷ (codes "the sender used its identifier (548) before", is_cross_id_used h.facts who d.cross_id)
    ∷ (codes "the sender used an identifier of its sides (11) before, or both have the same", is_order_id_used h.facts who d.first.order_id || (is_order_id_used h.facts who d.second.order_id || bytes_eq d.first.order_id d.second.order_id))
    ∷ (codes "it is no cross of type 4 (549) with a first side (550=1 or 2) at a limit (40=2)", not (d.cross_type == 4) || (not (d.prioritization == 1 || d.prioritization == 2) || not (is_limit d.order_type)))
    ∷ (codes "it has no price (44)", is_none d.price)
    ∷ (codes "both of its sides are to buy, or both to sell", is_side d.first.side d.second.side)
    ∷ (codes "its price (44) is no multiple of the instrument's tick", is_off_tick m.instruments o.instrument o.price)
    ∷ (codes "its sides have different quantities (38), or less than the instrument's least", not (d.first.quantity == d.second.quantity) || nat_lt d.first.quantity (least_of m.instruments o.instrument))
    ∷ (codes "its first side would trade with a linked order that entered less than the instrument's delay before (17 CFR 37.9(b)(1), (b)(2))", is_some (too_soon m h.facts o t))
    ∷ (codes "what its first side does not fill would rest, but 200 orders of that side rest, and no more than 200 may", is_side_full h.facts o)
    ∷ (codes "1000 second sides of crosses are held, and no more than 1000 may be", nat_le 1000 (length (held h.facts)))
    ∷ []

-- Requests for quotes (R), quotes (S) by the request that they name.

abbrev pub request_meanings : Market → History → ℕ → Request → ℕ → Meanings
request_meanings m h who d t =
    let rs = recipients m d in
    (codes "the sender used its identifier (131) before", is_request_id_used h.facts who d.request_id)
    ∷ (codes "no instrument has its symbol (55)", is_unknown_instrument m.instruments d.symbol)
    ∷ (codes "its quantity (38) is below the instrument's least", nat_lt d.quantity (least_of m.instruments (instrument_of m.instruments d.symbol)))
    ∷ (codes "one of its recipients is no participant", list_any is_none (named_recipients m d))
    ∷ (codes "the sender is one of its recipients", list_any (λ r. r == who) rs)
    ∷ (codes "a participant is named twice among its recipients", has_twice rs)
    ∷ (codes "it has more than 12 recipients", nat_lt 12 (length rs))
    ∷ (codes "it has fewer than three recipients (17 CFR 37.9(a)(3))", nat_lt (length rs) 3)
    ∷ (codes "no three of its recipients are unrelated to the sender and to each other (17 CFR 37.9(a)(3))", not (three_unrelated m.participants who rs))
    ∷ (codes "1000 requests are open, and no more than 1000 may be", nat_le 1000 (length (open_rooms h.facts t)))
    ∷ []

abbrev pub quote_meanings : Market → History → ℕ → QuoteMessage → ℕ → Option Room → Meanings
quote_meanings m h who d t None = (codes "no request has the identifier that it names (131)", true) ∷ []
quote_meanings m h who d t (Some r) =
    (codes "the sender is no recipient of the request", not (list_any (λ p. p == who) r.recipients))
    ∷ (codes "the request has traded, or its end has passed", not (is_open h.facts t r))
    ∷ (codes "its symbol (55) is not that of the request's instrument", not (bytes_eq d.symbol (symbol_of m.instruments r.instrument)))
    ∷ (codes "the sender used its identifier (117) before", is_quote_id_used h.facts who d.quote_id)
    ∷ (codes "it is not tradeable (537 is present, and not 1)", not (is_absent_or (λ c. c == 49) d.quote_type))
    ∷ (codes "no side that was asked has a price, a price (132, 133) is no multiple of the instrument's tick, or the bid is above the offer", lacks_price r.side d.bid_price d.offer_price || (is_price_off_tick m r.instrument d.bid_price || (is_price_off_tick m r.instrument d.offer_price || is_crossed d.bid_price d.offer_price)))
    ∷ (codes "a size (134, 135) is not the quantity of the request", not (is_absent_or (λ q. q == r.quantity) d.bid_size) || not (is_absent_or (λ q. q == r.quantity) d.offer_size))
    ∷ (codes "its end (62) is before the moment of this row", not (is_absent_or (λ u. not (nat_lt u t)) d.valid_until))
    ∷ []

-- Answers to quotes (AJ), by the quote that they name and its request.

abbrev pub no_quote_meanings : Meanings
no_quote_meanings = (codes "no quote has the identifier that it names (117)", true) ∷ []

-- of a hit alone
abbrev pub hit_meanings : Room → RoomQuote → Response → (passes : Bool) → Meanings
hit_meanings r q d true = []
hit_meanings r q d false =
    (codes "its side (54) is not the one that was asked", is_other_side r.side d.side)
    ∷ (codes "both sides were asked for, and it names none (54)", is_none (taken_side r.side d.side))
    ∷ (codes "the quote has no price for the side", is_none (price_taken (taken_side r.side d.side) q))
    ∷ []

abbrev pub room_meanings : History → ℕ → RoomQuote → Response → ℕ → (passes : Bool) → Option Room → Meanings
room_meanings h who q d t passes None = no_quote_meanings
room_meanings h who q d t passes (Some r) =
    (codes "the quote was given to the request of another participant", not (r.requester == who))
    ∷ (codes "the quote's maker quoted again in the request, or the request has traded", is_closed h.facts r.number || is_replaced h.facts q)
    ∷ (codes "the quote was withdrawn or passed", is_withdrawn h.facts q.number)
    ∷ (codes "the quote's end has passed", nat_lt q.end t)
    ∷ hit_meanings r q d passes

abbrev pub found_meanings : History → ℕ → Response → ℕ → Option RoomQuote → Meanings
found_meanings h who d t None = no_quote_meanings
found_meanings h who d t (Some q) = room_meanings h who q d t (is_pass d) (room_by_number h.facts q.room)

abbrev pub response_meanings : History → ℕ → Response → ℕ → Meanings
response_meanings h who d t =
    (codes "it is no hit (694=1) and no pass (694=6)", is_no_response d) ∷ found_meanings h who d t (find_quote h.facts d.quote_id)

-- Withdrawals (Z): of one quote, of all, or of neither.

abbrev pub withdrawal_meanings : History → ℕ → Withdrawal → ℕ → (one all : Bool) → Meanings
withdrawal_meanings h who d t true all =
    (codes "it names no quote (117)", is_none d.quote_id)
    ∷ (codes "the sender has no live quote, or none with the identifier that it names (117)", is_empty (named_quotes h who t d.quote_id))
    ∷ []
withdrawal_meanings h who d t false true = (codes "the sender has no live quote, or none with the identifier that it names (117)", is_empty (live_quotes h.facts who t)) ∷ []
withdrawal_meanings h who d t false false = (codes "it withdraws neither one quote (298=5) nor all (298=4)", true) ∷ []

-- Requests for prices (V).

abbrev pub market_meanings : Market → PricesRequest → Meanings
market_meanings m d =
    (codes "no instrument has its symbol (55)", is_unknown_instrument m.instruments d.symbol)
    ∷ (codes "it asks for more than a snapshot (263 is not 0)", not (d.subscription_type == 48))
    ∷ (codes "it asks for less than the whole book (264 is not 0)", not (d.depth == 0))
    ∷ []

-- Of any message, and of a held side that enters at a row of the clock.

abbrev pub meanings_of : Market → History → ℕ → App → ℕ → Meanings
meanings_of m h who (NewOrderSingle d) t = order_meanings m h who d t
meanings_of m h who (OrderCancelRequest d) t = cancel_meanings h who d (named h who d.original_id)
meanings_of m h who (OrderCancelReplaceRequest d) t = replace_meanings m h who d t (named h who d.original_id)
meanings_of m h who (NewOrderCross d) t = cross_meanings m h who d t
meanings_of m h who (QuoteRequest d) t = request_meanings m h who d t
meanings_of m h who (Quote d) t = quote_meanings m h who d t (find_room h.facts d.request_id)
meanings_of m h who (QuoteResponse d) t = response_meanings h who d t
meanings_of m h who (QuoteCancel d) t = withdrawal_meanings h who d t (is_of_one d) (is_of_all d)
meanings_of m h who (MarketDataRequest d) t = market_meanings m d
meanings_of m h who _ t = []

abbrev pub due_meanings : Market → History → Option HeldSide → Meanings
due_meanings m h None = []
due_meanings m h (Some k) =
    (codes "it would trade with a linked order that entered less than the instrument's delay before (17 CFR 37.9(b)(1), (b)(2))", is_some (too_soon m h.facts k.order k.due))
    ∷ (codes "what it does not fill would rest, but 200 orders of its side rest, and no more than 200 may", is_side_full h.facts k.order)
    ∷ []

abbrev pub meanings_at : Market → History → Input → Meanings
meanings_at m h (Message taken t) = meanings_of m h taken.from taken.item.app t
meanings_at m h (Tick t) = due_meanings m h (due h.facts t)

-- the sentence of the first test that holds
abbrev pub first_meant : Meanings → Option (List ℕ)
first_meant [] = None
first_meant (s ∷ ss) = if s.1 then Some s.0 else first_meant ss

-- the sentence that is printed of an answer: none where the answer names no cause
abbrev pub first_said : (ReplyBody → ℕ) → List Reply → Option (List ℕ)
first_said f [] = None
first_said f (r ∷ rs) = if f r.what == 0 then None else Some (sentence r.what)

abbrev pub said_at : Input → List Reply → Option (List ℕ)
said_at (Message taken t) rs = first_said (named_by taken.item.app) rs
said_at (Tick t) rs = first_said due_named rs

-- The sentence is that of the first test that holds.
abbrev pub SaysWhatHolds : Type 0
SaysWhatHolds = (m : Market) (h : History) (i : Input) → said_at i (answer_input m h i).replies ≡ first_meant (meanings_at m h i)

-- What is printed of a cause (the verdict of `why_text`): its number in docs/PROTOCOL.md, and the sentence. Where the
-- place is 0 no cause is printed.
abbrev pub Prints : Market → Input → List Reply → Option (List ℕ) → Type 0
Prints m i rs None = place_at i rs ≡ 0
Prints m i rs (Some s) = (more : List ℕ) × (verdict m i (place_at i rs) (count_at i rs) rs ≡ cause_text (number_at i rs) (many_at i (count_at i rs)) s ++ more)

-- A sentence is printed, with the number of its cause, exactly where its test holds, and none of those before it.
abbrev pub PrintsWhatHolds : Type 0
PrintsWhatHolds = (m : Market) (h : History) (i : Input) → Prints m i (answer_input m h i).replies (first_meant (meanings_at m h i))
