-- A message in words: its parts, in the order of a sentence.
use Rattle.std.specs.Prelude.{ℕ, Bool, ◌&&◌, ◌==◌, List, [], ◌∷◌, ◌++◌, Option, Some, None, is_none, bytes_eq, codes, decimal, if◌then◌else◌}
use Rattle.std.specs.List.{flat_map}
use Rattle.sef_moment.specs.Utc.{utc_text}
use Rattle.fix_fields.specs.Forms.{price_text}
use Rattle.fix_dictionary.specs.Text.{given}
use Rattle.fix_dictionary.specs.declared.values.Side.{Side}
use Rattle.fix_dictionary.specs.declared.values.Side.TheVariants.{Buy, Sell}
use Rattle.fix_dictionary.specs.declared.messages.App.{App}
use Rattle.fix_dictionary.specs.declared.messages.App.TheVariants as app
use Rattle.fix_dictionary.specs.declared.messages.BusinessMessageReject.{BusinessMessageReject}
use Rattle.fix_dictionary.specs.declared.messages.ExecutionReport.{ExecutionReport}
use Rattle.fix_dictionary.specs.declared.messages.MarketDataEntry.{MarketDataEntry}
use Rattle.fix_dictionary.specs.declared.messages.MarketDataRequest.{MarketDataRequest}
use Rattle.fix_dictionary.specs.declared.messages.MarketDataRequestReject.{MarketDataRequestReject}
use Rattle.fix_dictionary.specs.declared.messages.MarketDataSnapshot.{MarketDataSnapshot}
use Rattle.fix_dictionary.specs.declared.messages.NewOrderCross.{NewOrderCross}
use Rattle.fix_dictionary.specs.declared.messages.NewOrderSingle.{NewOrderSingle}
use Rattle.fix_dictionary.specs.declared.messages.OrderCancelReject.{OrderCancelReject}
use Rattle.fix_dictionary.specs.declared.messages.OrderCancelReplaceRequest.{OrderCancelReplaceRequest}
use Rattle.fix_dictionary.specs.declared.messages.OrderCancelRequest.{OrderCancelRequest}
use Rattle.fix_dictionary.specs.declared.messages.Party.{Party}
use Rattle.fix_dictionary.specs.declared.messages.Quote.{Quote}
use Rattle.fix_dictionary.specs.declared.messages.QuoteCancel.{QuoteCancel}
use Rattle.fix_dictionary.specs.declared.messages.QuoteRequest.{QuoteRequest}
use Rattle.fix_dictionary.specs.declared.messages.QuoteRequestReject.{QuoteRequestReject}
use Rattle.fix_dictionary.specs.declared.messages.QuoteResponse.{QuoteResponse}
use Rattle.fix_dictionary.specs.declared.messages.QuoteStatusReport.{QuoteStatusReport}
use Rattle.message_words.specs.Kinds.{report_kind}
use Rattle.message_words.specs.Parts.{Part, parts_text, words_alone}

-- Sides, and what codes stand for.

abbrev pub to_side : Side → List ℕ
to_side Buy = codes " to buy "
to_side Sell = codes " to sell "

abbrev pub asked_side : Option Side → List ℕ
asked_side None = codes " for both sides of "
asked_side (Some side) = to_side side

abbrev pub side_name : Side → List ℕ
side_name Buy = codes "to buy"
side_name Sell = codes "to sell"

-- an order type (40) that is not a limit
abbrev pub other_type : ℕ → Option (List ℕ)
other_type c = if c == 50 then None else Some (c ∷ [])

-- TimeInForce (59)
abbrev pub life_name : ℕ → List ℕ
life_name c = if c == 48 then codes "for the day" else (if c == 51 then codes "immediate or cancel" else (if c == 52 then codes "fill or kill" else codes "of another life"))

-- QuoteCancelType (298)
abbrev pub withdrawal_name : ℕ → List ℕ
withdrawal_name n = if n == 4 then codes "withdrawal of all quotes" else (if n == 5 then codes "withdrawal of quote" else codes "withdrawal of another type")

-- QuoteRespType (694)
abbrev pub response_name : ℕ → List ℕ
response_name n = if n == 1 then codes "hit of quote " else (if n == 6 then codes "pass of quote " else codes "response of another type to quote ")

-- QuoteStatus (297)
abbrev pub status_name : ℕ → List ℕ
status_name n = if n == 0 then codes "accepted" else (if n == 5 then codes "refused" else (if n == 7 then codes "expired" else (if n == 9 then codes "not found" else (if n == 11 then codes "passed" else (if n == 17 then codes "withdrawn" else codes "of another status")))))

-- the same of a response: one that is not accepted does not do what became of the quote before
abbrev pub outcome_name : ℕ → List ℕ
outcome_name n = if n == 7 then codes "refused: the quote had run out" else (if n == 9 then codes "refused: no such live quote" else (if n == 17 then codes "refused: the quote had been withdrawn or passed" else status_name n))

-- CxlRejResponseTo (434)
abbrev pub change_name : ℕ → List ℕ
change_name c = if c == 49 then codes "cancel " else codes "replacement "

-- MDEntryType (269)
abbrev pub entry_name : ℕ → List ℕ
entry_name c = if c == 48 then codes "; bid" else (if c == 49 then codes "; offer" else codes "; nothing rests")

-- Orders.

-- the number of an order (37), if it has one: a held side has none
abbrev pub order_number : List ℕ → Option (List ℕ)
order_number number = if bytes_eq number (codes "NONE") then None else Some number

-- what stands before its own identifier (11)
abbrev pub order_known_as : List ℕ → List ℕ
order_known_as number = if bytes_eq number (codes "NONE") then codes ": order " else codes " as "

-- A report that refuses an order (150=8) is on none of the book: a number in it is that of the order that has its
-- identifier.
abbrev pub report_number : ℕ → List ℕ → Option (List ℕ)
report_number kind number = if kind == 56 then None else order_number number

abbrev pub report_known_as : ℕ → List ℕ → List ℕ
report_known_as kind number = if kind == 56 then codes ": order " else order_known_as number

abbrev pub holder : ℕ → List ℕ → Option (List ℕ)
holder kind number = if kind == 56 then order_number number else None

abbrev pub order_parts : NewOrderSingle → List Part
order_parts d =
    (codes "order ", Some d.order_id)
    ∷ (to_side d.side, Some (decimal d.quantity))
    ∷ (codes " ", Some d.symbol)
    ∷ (codes " @ ", given price_text d.price)
    ∷ (codes " of order type ", other_type d.order_type)
    ∷ (codes " ", given life_name d.time_in_force)
    ∷ (codes " with link ", d.link_id)
    ∷ []

abbrev pub cancel_parts : OrderCancelRequest → List Part
cancel_parts d = (codes "cancel ", Some d.order_id) ∷ (codes " of order ", Some d.original_id) ∷ []

abbrev pub replacement_parts : OrderCancelReplaceRequest → List Part
replacement_parts d =
    (codes "replacement ", Some d.order_id)
    ∷ (codes " of order ", Some d.original_id)
    ∷ (codes " by ", Some (decimal d.quantity))
    ∷ (codes " @ ", given price_text d.price)
    ∷ (codes " of order type ", other_type d.order_type)
    ∷ []

abbrev pub cross_parts : NewOrderCross → List Part
cross_parts d =
    (codes "cross ", Some d.cross_id)
    ∷ (codes " of ", Some d.symbol)
    ∷ (codes " @ ", given price_text d.price)
    ∷ (codes ": ", Some d.first.order_id)
    ∷ (to_side d.first.side, Some (decimal d.first.quantity))
    ∷ (codes ", ", Some d.second.order_id)
    ∷ (to_side d.second.side, Some (decimal d.second.quantity))
    ∷ (codes ", of cross type ", Some (decimal d.cross_type))
    ∷ (codes " and priority ", Some (decimal d.prioritization))
    ∷ (codes " and order type ", other_type d.order_type)
    ∷ []

-- Parties (453).

-- By the rules a request goes to the parties with 447=D and 452=35 (liquidity provider), and to no other.
abbrev pub is_asked : Party → Bool
is_asked p = p.source == 68 && p.role == 35

-- another party: its name, the source of the name (447) and its role (452)
abbrev pub party_parts : Party → List Part
party_parts p = (codes ", with party ", Some p.id) ∷ (codes " (447=", Some (p.source ∷ [])) ∷ (codes ", 452=", Some (decimal p.role)) ∷ words_alone (codes ")") ∷ []

unfoldable pub party_words : Party → List ℕ
party_words p = parts_text (party_parts p)

-- Requests for quotes.

abbrev pub request_parts : QuoteRequest → List Part
request_parts d =
    (codes "request ", Some d.request_id)
    ∷ words_alone (codes " for quotes")
    ∷ (asked_side d.side, Some (decimal d.quantity))
    ∷ (codes " ", Some d.symbol)
    ∷ []

-- a party of a request: it is asked, or another
unfoldable pub asked_words : Party → List ℕ
asked_words p = if is_asked p then codes ", asking " ++ p.id else party_words p

abbrev pub quote_parts : Quote → List Part
quote_parts d =
    (codes "quote ", Some d.quote_id)
    ∷ (codes " in request ", Some d.request_id)
    ∷ (codes " for ", Some d.symbol)
    ∷ (codes ", bid ", given price_text d.bid_price)
    ∷ (codes " for ", given decimal d.bid_size)
    ∷ (codes ", offer ", given price_text d.offer_price)
    ∷ (codes " for ", given decimal d.offer_size)
    ∷ (codes ", until ", given utc_text d.valid_until)
    ∷ []

-- a party of a quote that the venue sends: it names the maker so
unfoldable pub maker_words : Party → List ℕ
maker_words p = if is_asked p then codes ", of " ++ p.id else party_words p

abbrev pub withdrawal_parts : QuoteCancel → List Part
withdrawal_parts d = words_alone (withdrawal_name d.cancel_type) ∷ (codes " ", d.quote_id) ∷ []

abbrev pub response_parts : QuoteResponse → List Part
response_parts d =
    (response_name d.response_type, Some d.quote_id)
    ∷ (codes " ", given side_name d.side)
    ∷ (codes " as ", Some d.response_id)
    ∷ []

-- of a response (693)
abbrev pub outcome_parts : List ℕ → QuoteStatusReport → List Part
outcome_parts response d =
    (codes "status: response ", Some response)
    ∷ (codes " to quote ", d.quote_id)
    ∷ (codes " in request ", d.request_id)
    ∷ (codes " for ", d.symbol)
    ∷ (codes " ", Some (outcome_name d.status))
    ∷ (codes ", 300=", given decimal d.reject_reason)
    ∷ (codes " ", d.text)
    ∷ []

-- of a withdrawal that finds none (297=9)
abbrev pub no_quote_parts : QuoteStatusReport → List Part
no_quote_parts d =
    words_alone (codes "status: no live quote")
    ∷ (codes " ", d.quote_id)
    ∷ (codes " in request ", d.request_id)
    ∷ (codes " for ", d.symbol)
    ∷ (codes ", 300=", given decimal d.reject_reason)
    ∷ (codes " ", d.text)
    ∷ []

abbrev pub quote_status_parts : QuoteStatusReport → List Part
quote_status_parts d =
    words_alone (codes "status:")
    ∷ (codes " quote ", d.quote_id)
    ∷ (codes " in request ", d.request_id)
    ∷ (codes " for ", d.symbol)
    ∷ (codes " ", Some (status_name d.status))
    ∷ (codes ", 300=", given decimal d.reject_reason)
    ∷ (codes " ", d.text)
    ∷ []

-- The answer to a quote names its request (131); without a response only a withdrawal is refused without one.
abbrev pub is_withdrawal_refused : QuoteStatusReport → Bool
is_withdrawal_refused d = d.status == 5 && is_none d.request_id

abbrev pub withdrawal_refused_parts : QuoteStatusReport → List Part
withdrawal_refused_parts d =
    words_alone (codes "status: withdrawal")
    ∷ (codes " of quote ", d.quote_id)
    ∷ (codes " for ", d.symbol)
    ∷ words_alone (codes " refused")
    ∷ (codes ", 300=", given decimal d.reject_reason)
    ∷ (codes " ", d.text)
    ∷ []

-- of a quote, or of a withdrawal
abbrev pub named_status : QuoteStatusReport → List ℕ
named_status d = if is_withdrawal_refused d then parts_text (withdrawal_refused_parts d) else parts_text (quote_status_parts d)

-- by the response
abbrev pub status_words : Option (List ℕ) → QuoteStatusReport → List ℕ
status_words (Some response) d = parts_text (outcome_parts response d)
status_words None d = if d.status == 9 then parts_text (no_quote_parts d) else named_status d

abbrev pub request_refused_parts : QuoteRequestReject → List Part
request_refused_parts d =
    (codes "request ", Some d.request_id)
    ∷ (codes " for ", Some d.symbol)
    ∷ (codes " refused, 658=", Some (decimal d.reject_reason))
    ∷ (codes " ", d.text)
    ∷ []

-- Reports.

abbrev pub report_parts : ExecutionReport → List Part
report_parts d =
    (codes "report ", Some d.execution_id)
    ∷ (codes ": ", report_number d.execution_type d.venue_order_id)
    ∷ (report_known_as d.execution_type d.venue_order_id, d.order_id)
    ∷ (to_side d.side, Some d.symbol)
    ∷ (codes " ", Some (report_kind d.execution_type))
    ∷ (codes " ", given decimal d.last_quantity)
    ∷ (codes " @ ", given price_text d.last_price)
    ∷ (codes " in trade ", d.trade_id)
    ∷ (codes ", left ", Some (decimal d.left))
    ∷ (codes ", filled so far ", Some (decimal d.filled))
    ∷ (codes ", original ", d.original_id)
    ∷ (codes ", to response ", d.response_id)
    ∷ (codes ", 103=", given decimal d.reject_reason)
    ∷ (codes " ", d.text)
    ∷ (codes " of ", holder d.execution_type d.venue_order_id)
    ∷ []

abbrev pub change_refused_parts : OrderCancelReject → List Part
change_refused_parts d =
    (change_name d.response_to, Some d.order_id)
    ∷ (codes " of order ", Some d.original_id)
    ∷ (codes ", ", order_number d.venue_order_id)
    ∷ (codes ", refused, 102=", Some (decimal d.reject_reason))
    ∷ (codes " ", d.text)
    ∷ []

-- Prices, and what is not processed.

abbrev pub prices_request_parts : MarketDataRequest → List Part
prices_request_parts d = (codes "request ", Some d.request_id) ∷ (codes " for the prices of ", Some d.symbol) ∷ []

abbrev pub prices_parts : MarketDataSnapshot → List Part
prices_parts d = (codes "prices of ", Some d.symbol) ∷ (codes " for request ", Some d.request_id) ∷ []

-- a resting order
abbrev pub entry_parts : MarketDataEntry → List Part
entry_parts e =
    words_alone (entry_name e.entry_type)
    ∷ (codes " ", e.order_id)
    ∷ (codes " ", given decimal e.size)
    ∷ (codes " @ ", given price_text e.price)
    ∷ []

abbrev pub entry_words : MarketDataEntry → List ℕ
entry_words e = parts_text (entry_parts e)

abbrev pub prices_refused_parts : MarketDataRequestReject → List Part
prices_refused_parts d =
    (codes "request ", Some d.request_id)
    ∷ (codes " for prices refused, 281=", Some (d.reject_reason ∷ []))
    ∷ (codes " ", d.text)
    ∷ []

abbrev pub unprocessed_parts : BusinessMessageReject → List Part
unprocessed_parts d =
    (codes "message with sequence number ", Some (decimal d.reference_number))
    ∷ (codes " of type ", Some d.reference_type)
    ∷ (codes " not processed, 380=", Some (decimal d.reject_reason))
    ∷ (codes " ", d.text)
    ∷ []

abbrev pub unsupported_parts : List ℕ → List Part
unsupported_parts kind = (codes "message of type ", Some kind) ∷ words_alone (codes ", which is not supported") ∷ []

-- a message of the venue in words
unfoldable pub words : App → List ℕ
words (app.NewOrderSingle d) = parts_text (order_parts d)
words (app.OrderCancelRequest d) = parts_text (cancel_parts d)
words (app.OrderCancelReplaceRequest d) = parts_text (replacement_parts d)
words (app.NewOrderCross d) = parts_text (cross_parts d)
words (app.QuoteRequest d) = parts_text (request_parts d) ++ flat_map asked_words d.parties
words (app.Quote d) = parts_text (quote_parts d) ++ flat_map maker_words d.parties
words (app.QuoteCancel d) = parts_text (withdrawal_parts d)
words (app.QuoteResponse d) = parts_text (response_parts d)
words (app.QuoteStatusReport d) = status_words d.response_id d
words (app.QuoteRequestReject d) = parts_text (request_refused_parts d)
words (app.ExecutionReport d) = parts_text (report_parts d)
words (app.OrderCancelReject d) = parts_text (change_refused_parts d)
words (app.MarketDataRequest d) = parts_text (prices_request_parts d)
words (app.MarketDataSnapshot d) = parts_text (prices_parts d) ++ flat_map entry_words d.entries
words (app.MarketDataRequestReject d) = parts_text (prices_refused_parts d)
words (app.BusinessMessageReject d) = parts_text (unprocessed_parts d)
words (app.Unsupported kind) = parts_text (unsupported_parts kind)

-- A message that came, in words. The parties of a maker's quote are not used: they do not say whose it is.
unfoldable pub came_words : App → List ℕ
came_words (app.Quote d) = parts_text (quote_parts d) ++ flat_map party_words d.parties
came_words a = words a
