-- Which cause of its list an answer names: its number, from 1, and how many the list has.
use Rattle.std.specs.Prelude.{ℕ, Bool, true, false, List, [], ◌∷◌, Option, Some, None, if◌then◌else◌}
use Rattle.fix_dictionary.specs.declared.messages.App.{App}
use Rattle.fix_dictionary.specs.declared.messages.App.TheVariants.{QuoteRequest, Quote, QuoteCancel, QuoteResponse, NewOrderSingle, OrderCancelRequest, OrderCancelReplaceRequest, NewOrderCross, MarketDataRequest}
use Rattle.venue_rules.specs.declared.refusals.BusinessRefusal.{BusinessRefusal}
use Rattle.venue_rules.specs.declared.refusals.BusinessRefusal.TheVariants as business
use Rattle.venue_rules.specs.declared.refusals.OrderRefusal.{OrderRefusal}
use Rattle.venue_rules.specs.declared.refusals.OrderRefusal.TheVariants as order
use Rattle.venue_rules.specs.declared.refusals.ChangeRefusal.{ChangeRefusal}
use Rattle.venue_rules.specs.declared.refusals.ChangeRefusal.TheVariants as change
use Rattle.venue_rules.specs.declared.refusals.CrossRefusal.{CrossRefusal}
use Rattle.venue_rules.specs.declared.refusals.CrossRefusal.TheVariants as cross
use Rattle.venue_rules.specs.declared.refusals.RequestRefusal.{RequestRefusal}
use Rattle.venue_rules.specs.declared.refusals.RequestRefusal.TheVariants as request
use Rattle.venue_rules.specs.declared.refusals.QuoteRefusal.{QuoteRefusal}
use Rattle.venue_rules.specs.declared.refusals.QuoteRefusal.TheVariants as quote
use Rattle.venue_rules.specs.declared.refusals.ResponseRefusal.{ResponseRefusal}
use Rattle.venue_rules.specs.declared.refusals.ResponseRefusal.TheVariants as response
use Rattle.venue_rules.specs.declared.refusals.MarketDataRefusal.{MarketDataRefusal}
use Rattle.venue_rules.specs.declared.refusals.MarketDataRefusal.TheVariants as market
use Rattle.venue_rules.specs.declared.replies.OrderStatus.{OrderStatus}
use Rattle.venue_rules.specs.declared.replies.QuoteState.{QuoteState}
use Rattle.venue_rules.specs.declared.replies.QuoteState.TheVariants as state
use Rattle.venue_rules.specs.declared.replies.Reply.{Reply}
use Rattle.venue_rules.specs.declared.replies.ReplyBody.{ReplyBody}
use Rattle.venue_rules.specs.declared.replies.ReplyBody.TheVariants as what
use Rattle.refusal_causes.specs.Causes.{is_of_all, is_of_one, is_pass}

-- The number of a cause in its list.

abbrev pub order_place : OrderRefusal → ℕ
order_place order.UnknownInstrument = 1
order_place order.DuplicateClOrdId = 2
order_place order.UnsupportedOrder = 3
order_place order.PriceOffTick = 5
order_place order.QuantityBelowLeast = 6
order_place order.LinkedOrderTooRecent = 7
order_place order.BookSideFull = 8

abbrev pub change_place : ChangeRefusal → ℕ
change_place change.UnknownOrder = 1
change_place change.DuplicateClOrdId = 1
change_place change.HeldSide = 2
change_place change.UnsupportedOrder = 2
change_place change.PriceOffTick = 4
change_place change.QuantityBelowLeast = 5
change_place change.QuantityAlreadyFilled = 6
change_place change.LinkedOrderTooRecent = 7

abbrev pub cross_place : CrossRefusal → ℕ
cross_place cross.UnknownInstrument = 1
cross_place cross.DuplicateCrossId = 2
cross_place cross.DuplicateClOrdId = 3
cross_place cross.UnsupportedOrder = 4
cross_place cross.OneBuyAndOneSell = 6
cross_place cross.PriceOffTick = 7
cross_place cross.Quantity = 8
cross_place cross.LinkedOrderTooRecent = 9
cross_place cross.BookSideFull = 10
cross_place cross.TooManyHeld = 11

abbrev pub request_place : RequestRefusal → ℕ
request_place request.DuplicateRequest = 1
request_place request.UnknownInstrument = 2
request_place request.QuantityBelowLeast = 3
request_place request.UnknownParticipant = 4
request_place request.RequesterAmongRecipients = 5
request_place request.RecipientTwice = 6
request_place request.TooManyRecipients = 7
request_place request.TooFewRecipients = 8
request_place request.RecipientsNotUnrelated = 9
request_place request.TooManyRequests = 10

abbrev pub quote_place : QuoteRefusal → ℕ
quote_place quote.UnknownRequest = 1
quote_place quote.NotAsked = 1
quote_place quote.RoomOver = 2
quote_place quote.UnknownInstrument = 3
quote_place quote.DuplicateQuote = 4
quote_place quote.NotTradeable = 5
quote_place quote.InvalidPrice = 6
quote_place quote.Size = 7
quote_place quote.EndPassed = 8

abbrev pub response_place : ResponseRefusal → ℕ
response_place response.UnsupportedResponse = 1
response_place response.NotYours = 3
response_place response.Side = 7
response_place response.InvalidPrice = 9

abbrev pub market_place : MarketDataRefusal → ℕ
market_place market.UnknownInstrument = 1
market_place market.SnapshotsOnly = 2
market_place market.FullDepthOnly = 3

-- where a field is missing that no message of the type has to have
abbrev pub missing_place : BusinessRefusal → ℕ → ℕ
missing_place business.UnsupportedMessageType n = 0
missing_place _ n = n

-- The number of the cause that an answer to each type names; 0 where it names none.

abbrev pub order_named : ReplyBody → ℕ
order_named (what.OrderRefused r) = order_place r.cause
order_named (what.BusinessReject r) = missing_place r.cause 4
order_named _ = 0

abbrev pub cancel_named : ReplyBody → ℕ
cancel_named (what.ChangeRefused r) = change_place r.cause
cancel_named _ = 0

abbrev pub replace_named : ReplyBody → ℕ
replace_named (what.ChangeRefused r) = change_place r.cause
replace_named (what.BusinessReject r) = missing_place r.cause 3
replace_named _ = 0

abbrev pub cross_named : ReplyBody → ℕ
cross_named (what.CrossRefused r) = cross_place r.cause
cross_named (what.BusinessReject r) = missing_place r.cause 5
cross_named _ = 0

abbrev pub request_named : ReplyBody → ℕ
request_named (what.RequestRefused r) = request_place r.cause
request_named _ = 0

abbrev pub quote_state_place : QuoteState → ℕ
quote_state_place (state.Refused cause) = quote_place cause
quote_state_place _ = 0

abbrev pub quote_named : ReplyBody → ℕ
quote_named (what.QuoteStatus r) = quote_state_place r.state
quote_named _ = 0

-- a quote that is not found has no room, or is replaced or of a request that is over, and then its instrument is given
abbrev pub gone_place : Option (List ℕ) → ℕ
gone_place None = 2
gone_place (Some symbol) = 4

abbrev pub response_state_place : QuoteState → Option (List ℕ) → ℕ
response_state_place (state.ResponseRefused cause) symbol = response_place cause
response_state_place state.NotFound symbol = gone_place symbol
response_state_place state.Withdrawn symbol = 5
response_state_place state.Expired symbol = 6
response_state_place _ symbol = 0

abbrev pub response_named : ReplyBody → ℕ
response_named (what.QuoteStatus r) = response_state_place r.state r.symbol
response_named (what.BusinessReject r) = missing_place r.cause 8
response_named _ = 0

abbrev pub withdrawal_state_place : QuoteState → Bool → ℕ
withdrawal_state_place state.CancelUnsupported one = 1
withdrawal_state_place state.NotFound one = if one then 3 else 2
withdrawal_state_place _ one = 0

abbrev pub withdrawal_refused : ReplyBody → Bool → ℕ
withdrawal_refused (what.QuoteStatus r) one = withdrawal_state_place r.state one
withdrawal_refused (what.BusinessReject r) one = missing_place r.cause 2
withdrawal_refused _ one = 0

-- by whether one quote is to be withdrawn
abbrev pub withdrawal_named : Bool → ReplyBody → ℕ
withdrawal_named one w = withdrawal_refused w one

abbrev pub market_named : ReplyBody → ℕ
market_named (what.MarketDataReject r) = market_place r.cause
market_named _ = 0

abbrev pub named_by : App → ReplyBody → ℕ
named_by (NewOrderSingle d) w = order_named w
named_by (OrderCancelRequest d) w = cancel_named w
named_by (OrderCancelReplaceRequest d) w = replace_named w
named_by (NewOrderCross d) w = cross_named w
named_by (QuoteRequest d) w = request_named w
named_by (Quote d) w = quote_named w
named_by (QuoteResponse d) w = response_named w
named_by (QuoteCancel d) w = withdrawal_named (is_of_one d) w
named_by (MarketDataRequest d) w = market_named w
named_by _ w = 0

abbrev pub first_named : (ReplyBody → ℕ) → List Reply → ℕ
first_named f [] = 0
first_named f (r ∷ rs) = f r.what

-- the number of the cause that the replies to a message name, from 1; 0 where they name none
abbrev pub place : App → List Reply → ℕ
place a rs = first_named (named_by a) rs

-- Of how many causes the list is in which it stands.

-- a replacement of a held side, or of a resting order
abbrev pub standing_count : Option OrderStatus → ℕ
standing_count None = 2
standing_count (Some st) = 7

abbrev pub change_count : ChangeRefusal → Option OrderStatus → ℕ
change_count change.UnknownOrder st = 1
change_count _ st = standing_count st

abbrev pub replace_count : ReplyBody → ℕ
replace_count (what.ChangeRefused r) = change_count r.cause r.standing
replace_count _ = 7

abbrev pub is_unknown_request : QuoteRefusal → Bool
is_unknown_request quote.UnknownRequest = true
is_unknown_request _ = false

abbrev pub quote_state_count : QuoteState → ℕ
quote_state_count (state.Refused cause) = if is_unknown_request cause then 1 else 8
quote_state_count _ = 8

abbrev pub quote_count : ReplyBody → ℕ
quote_count (what.QuoteStatus r) = quote_state_count r.state
quote_count _ = 8

-- a pass, or a hit
abbrev pub kind_count : Bool → ℕ
kind_count true = 6
kind_count false = 9

abbrev pub gone_count : Option (List ℕ) → Bool → ℕ
gone_count None passes = 2
gone_count (Some symbol) passes = kind_count passes

abbrev pub is_unsupported : ResponseRefusal → Bool
is_unsupported response.UnsupportedResponse = true
is_unsupported _ = false

abbrev pub response_state_count : QuoteState → Option (List ℕ) → Bool → ℕ
response_state_count (state.ResponseRefused cause) symbol passes = if is_unsupported cause then 1 else kind_count passes
response_state_count state.NotFound symbol passes = gone_count symbol passes
response_state_count _ symbol passes = kind_count passes

abbrev pub response_counted : ReplyBody → Bool → ℕ
response_counted (what.QuoteStatus r) passes = response_state_count r.state r.symbol passes
response_counted _ passes = kind_count passes

-- by whether it is a pass
abbrev pub response_count : Bool → ReplyBody → ℕ
response_count passes w = response_counted w passes

-- by whether one quote is to be withdrawn, and whether all are
abbrev pub withdrawal_count : Bool → Bool → ℕ
withdrawal_count true all = 3
withdrawal_count false true = 2
withdrawal_count false false = 1

abbrev pub counted_by : App → ReplyBody → ℕ
counted_by (NewOrderSingle d) w = 8
counted_by (OrderCancelRequest d) w = 1
counted_by (OrderCancelReplaceRequest d) w = replace_count w
counted_by (NewOrderCross d) w = 11
counted_by (QuoteRequest d) w = 10
counted_by (Quote d) w = quote_count w
counted_by (QuoteResponse d) w = response_count (is_pass d) w
counted_by (QuoteCancel d) w = withdrawal_count (is_of_one d) (is_of_all d)
counted_by (MarketDataRequest d) w = 3
counted_by _ w = 0

abbrev pub count : App → List Reply → ℕ
count a rs = first_named (counted_by a) rs

-- Of a held side that enters at a tick.

abbrev pub due_place : OrderRefusal → ℕ
due_place order.LinkedOrderTooRecent = 1
due_place order.BookSideFull = 2
due_place _ = 0

abbrev pub due_named : ReplyBody → ℕ
due_named (what.OrderRefused r) = due_place r.cause
due_named _ = 0

abbrev pub due_count : ReplyBody → ℕ
due_count w = 2

-- Causes that end by time alone: a linked order entered too short a time before (17 CFR 37.9(b)(1)), and too many
-- requests whose end has not come.

abbrev pub is_recent_order : OrderRefusal → Bool
is_recent_order order.LinkedOrderTooRecent = true
is_recent_order _ = false

abbrev pub is_recent_change : ChangeRefusal → Bool
is_recent_change change.LinkedOrderTooRecent = true
is_recent_change _ = false

abbrev pub is_recent_cross : CrossRefusal → Bool
is_recent_cross cross.LinkedOrderTooRecent = true
is_recent_cross _ = false

abbrev pub is_full_request : RequestRefusal → Bool
is_full_request request.TooManyRequests = true
is_full_request _ = false

abbrev pub order_waits : ReplyBody → Bool
order_waits (what.OrderRefused r) = is_recent_order r.cause
order_waits _ = false

abbrev pub replace_waits : ReplyBody → Bool
replace_waits (what.ChangeRefused r) = is_recent_change r.cause
replace_waits _ = false

abbrev pub cross_waits : ReplyBody → Bool
cross_waits (what.CrossRefused r) = is_recent_cross r.cause
cross_waits _ = false

abbrev pub request_waits : ReplyBody → Bool
request_waits (what.RequestRefused r) = is_full_request r.cause
request_waits _ = false

abbrev pub waits_by : App → ReplyBody → Bool
waits_by (NewOrderSingle d) w = order_waits w
waits_by (OrderCancelReplaceRequest d) w = replace_waits w
waits_by (NewOrderCross d) w = cross_waits w
waits_by (QuoteRequest d) w = request_waits w
waits_by _ w = false

abbrev pub first_waits : (ReplyBody → Bool) → List Reply → Bool
first_waits f [] = false
first_waits f (r ∷ rs) = f r.what

-- a message is refused for such a cause
abbrev pub waits : App → List Reply → Bool
waits a rs = first_waits (waits_by a) rs
