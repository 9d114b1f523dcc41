use Rattle.std.specs.Prelude.{ℕ, ℤ, Bool, true, false, not, ◌||◌, ◌==◌, nat_lt, nat_le, List, [], ◌∷◌, length, Option, Some, None, is_none, bytes_eq}
use Rattle.std.specs.List.{list_any}
use Rattle.fix_dictionary.specs.declared.messages.QuoteRequest.{QuoteRequest}
use Rattle.fix_dictionary.specs.declared.messages.Quote.{Quote}
use Rattle.fix_dictionary.specs.declared.messages.QuoteCancel.{QuoteCancel}
use Rattle.fix_dictionary.specs.declared.messages.QuoteResponse.{QuoteResponse}
use Rattle.fix_dictionary.specs.declared.values.Side.{Side}
use Rattle.venue_rules.specs.declared.facts.Fact.{Fact}
use Rattle.venue_rules.specs.declared.facts.Room.{Room}
use Rattle.venue_rules.specs.declared.facts.RoomQuote.{RoomQuote}
use Rattle.venue_rules.specs.declared.refusals.RequestRefusal.{RequestRefusal}
use Rattle.venue_rules.specs.declared.refusals.RequestRefusal.TheVariants as request
use Rattle.venue_rules.specs.declared.refusals.QuoteRefusal.{QuoteRefusal}
use Rattle.venue_rules.specs.declared.refusals.QuoteRefusal.TheVariants as quote
use Rattle.participants.specs.Relations.{three_unrelated}
use Rattle.instruments.specs.Listing.{instrument_of, is_unknown_instrument, least_of, symbol_of}
use Rattle.venue_rules.specs.Market.{Market}
use Rattle.venue_rules.specs.Facts.{is_quote_id_used, is_request_id_used}
use Rattle.venue_rules.specs.Rooms.{find_quote, find_room, is_closed, is_open, is_replaced, is_withdrawn, open_rooms}
use Rattle.venue_rules.specs.Requests.{has_twice, named_recipients, open_room, recipient_room, recipients}
use Rattle.venue_rules.specs.Quotes.{is_absent_or, is_crossed, is_price_off_tick, lacks_price}
use Rattle.venue_rules.specs.Responses.{is_other_side, price_for, taken_side}
use Rattle.rfq_room.specs.declared.decision.Decision.{Decision}
use Rattle.rfq_room.specs.declared.decision.Decision.TheVariants.{Refuse, Pass, Trade}
use Rattle.rfq_room.specs.declared.refusal.WithdrawalRefusal.{WithdrawalRefusal}
use Rattle.rfq_room.specs.declared.refusal.WithdrawalRefusal.TheVariants as withdrawal
use Rattle.rfq_room.specs.declared.refusal.ResponseCause.{ResponseCause}
use Rattle.rfq_room.specs.declared.refusal.ResponseCause.TheVariants as response
use Rattle.rfq_room.specs.Named.{named_quotes, quote_room}
use Rattle.rfq_room.specs.Views.{first_cause}

-- causes that refuse a request, in order: of its recipients, and of the open rooms
abbrev pub recipient_causes : Market → List Fact → ℕ → QuoteRequest → ℕ → List (Bool × RequestRefusal)
recipient_causes m facts who d t =
    (list_any is_none (named_recipients m d), request.UnknownParticipant)
    ∷ (list_any (λ r. r == who) (recipients m d), request.RequesterAmongRecipients)
    ∷ (has_twice (recipients m d), request.RecipientTwice)
    ∷ (nat_lt recipient_room (length (recipients m d)), request.TooManyRecipients)
    ∷ (nat_lt (length (recipients m d)) 3, request.TooFewRecipients)
    ∷ (not (three_unrelated m.participants who (recipients m d)), request.RecipientsNotUnrelated)
    ∷ (nat_le open_room (length (open_rooms facts t)), request.TooManyRequests)
    ∷ []

-- before them, of its instrument and quantity
abbrev pub request_causes : Market → List Fact → ℕ → QuoteRequest → ℕ → List (Bool × RequestRefusal)
request_causes m facts who d t =
    (is_request_id_used facts who d.request_id, request.DuplicateRequest)
    ∷ (is_unknown_instrument m.instruments d.symbol, request.UnknownInstrument)
    ∷ (nat_lt d.quantity (least_of m.instruments (instrument_of m.instruments d.symbol)), request.QuantityBelowLeast)
    ∷ recipient_causes m facts who d t

abbrev pub request_cause : Market → List Fact → ℕ → QuoteRequest → ℕ → Option RequestRefusal
request_cause m facts who d t = first_cause (request_causes m facts who d t)

-- causes that refuse a quote in a room, in order: of its own terms
abbrev pub terms_causes : Market → Room → Quote → ℕ → List (Bool × QuoteRefusal)
terms_causes m r d t =
    (not (is_absent_or (λ c. c == 49) d.quote_type), quote.NotTradeable)
    ∷ (lacks_price r.side d.bid_price d.offer_price || (is_price_off_tick m r.instrument d.bid_price || (is_price_off_tick m r.instrument d.offer_price || is_crossed d.bid_price d.offer_price)), quote.InvalidPrice)
    ∷ (not (is_absent_or (λ q. q == r.quantity) d.bid_size) || not (is_absent_or (λ q. q == r.quantity) d.offer_size), quote.Size)
    ∷ (not (is_absent_or (λ u. not (nat_lt u t)) d.valid_until), quote.EndPassed)
    ∷ []

-- before them, of its sender and room
abbrev pub quote_causes : Market → List Fact → ℕ → Room → Quote → ℕ → List (Bool × QuoteRefusal)
quote_causes m facts who r d t =
    (not (list_any (λ p. p == who) r.recipients), quote.NotAsked)
    ∷ (not (is_open facts t r), quote.RoomOver)
    ∷ (not (bytes_eq d.symbol (symbol_of m.instruments r.instrument)), quote.UnknownInstrument)
    ∷ (is_quote_id_used facts who d.quote_id, quote.DuplicateQuote)
    ∷ terms_causes m r d t

abbrev pub quote_cause_in : Market → List Fact → ℕ → Quote → ℕ → Option Room → Option QuoteRefusal
quote_cause_in m facts who d t None = Some quote.UnknownRequest
quote_cause_in m facts who d t (Some r) = first_cause (quote_causes m facts who r d t)

abbrev pub quote_cause : Market → List Fact → ℕ → Quote → ℕ → Option QuoteRefusal
quote_cause m facts who d t = quote_cause_in m facts who d t (find_room facts d.request_id)

-- the form of a withdrawal: by whether QuoteCancelType (298) is 5, and whether it is 4
abbrev pub form_cause_of : QuoteCancel → Bool → Bool → Option WithdrawalRefusal
form_cause_of d true all = elim (is_none d.quote_id) [ true ↦ Some withdrawal.QuoteMissing | false ↦ None ]
form_cause_of d false true = None
form_cause_of d false false = Some withdrawal.Unsupported

abbrev pub form_cause : QuoteCancel → Option WithdrawalRefusal
form_cause d = form_cause_of d (d.cancel_type == 5) (d.cancel_type == 4)

-- the identifier of a withdrawal: its own with 298 of 5, else none
abbrev pub withdrawal_id : QuoteCancel → Option (List ℕ)
withdrawal_id d = elim (d.cancel_type == 5) [ true ↦ d.quote_id | false ↦ None ]

-- or no quote is found
abbrev pub none_found : List RoomQuote → Option WithdrawalRefusal
none_found [] = Some withdrawal.NotFound
none_found (q ∷ qs) = None

abbrev pub cause_or : Option WithdrawalRefusal → Option WithdrawalRefusal → Option WithdrawalRefusal
cause_or last None = last
cause_or last (Some first) = Some first

abbrev pub withdrawal_cause : List Fact → ℕ → QuoteCancel → ℕ → Option WithdrawalRefusal
withdrawal_cause facts who d t = cause_or (none_found (named_quotes facts who t (withdrawal_id d))) (form_cause d)

-- decisions on a quote response

-- a hit, by the requester's side and the quote's price for it
abbrev pub hit_at : Side → Option ℤ → Decision
hit_at side None = Refuse response.NoPrice
hit_at side (Some price) = Trade (record { side = side; price = price })

abbrev pub hit_on : RoomQuote → Option Side → Decision
hit_on q None = Refuse response.SideMissing
hit_on q (Some side) = hit_at side (price_for side q)

-- checks before a hit, in order
abbrev pub before_hit : List Fact → ℕ → Room → RoomQuote → QuoteResponse → ℕ → List (Bool × Decision)
before_hit facts who r q d t =
    (not (r.requester == who), Refuse response.NotYours)
    ∷ (is_closed facts r.number || is_replaced facts q, Refuse response.Over)
    ∷ (is_withdrawn facts q.number, Refuse response.Withdrawn)
    ∷ (nat_lt q.end t, Refuse response.Expired)
    ∷ (d.response_type == 6, Pass)
    ∷ (is_other_side r.side d.side, Refuse response.OtherSide)
    ∷ []

abbrev pub decision_or : Decision → Option Decision → Decision
decision_or last None = last
decision_or last (Some first) = first

abbrev pub decide_room : List Fact → ℕ → Room → RoomQuote → QuoteResponse → ℕ → Decision
decide_room facts who r q d t = decision_or (hit_on q (taken_side r.side d.side)) (first_cause (before_hit facts who r q d t))

abbrev pub decide_in : List Fact → ℕ → QuoteResponse → ℕ → Option RoomQuote → Option Room → Decision
decide_in facts who d t None room = Refuse response.UnknownQuote
decide_in facts who d t (Some q) None = Refuse response.UnknownQuote
decide_in facts who d t (Some q) (Some r) = decide_room facts who r q d t

-- QuoteRespType (694) is 1, a hit, or 6, a pass
abbrev pub is_supported : QuoteResponse → Bool
is_supported d = d.response_type == 1 || d.response_type == 6

abbrev pub decide : List Fact → ℕ → QuoteResponse → ℕ → Decision
decide facts who d t = elim (is_supported d) [ true ↦ decide_in facts who d t (find_quote facts d.quote_id) (quote_room facts d.quote_id) | false ↦ Refuse response.Unsupported ]

-- the cause of a refusal
abbrev pub refused_by : Decision → Option ResponseCause
refused_by (Refuse cause) = Some cause
refused_by Pass = None
refused_by (Trade hit) = None
