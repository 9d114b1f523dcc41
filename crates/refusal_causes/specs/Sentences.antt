-- Why a message is refused, in words: the sentence of each cause.
use Rattle.std.specs.Prelude.{ℕ, List, [], Option, Some, None, codes}
use Rattle.venue_rules.specs.declared.refusals.BusinessRefusal.{BusinessRefusal}
use Rattle.venue_rules.specs.declared.refusals.BusinessRefusal.TheVariants as business
use Rattle.venue_rules.specs.declared.refusals.OrderRefusal.{OrderRefusal}
use Rattle.venue_rules.specs.declared.refusals.OrderRefusal.TheVariants as order
use Rattle.venue_rules.specs.declared.refusals.ChangeRefusal.{ChangeRefusal}
use Rattle.venue_rules.specs.declared.refusals.ChangeRefusal.TheVariants as change
use Rattle.venue_rules.specs.declared.refusals.CrossRefusal.{CrossRefusal}
use Rattle.venue_rules.specs.declared.refusals.CrossRefusal.TheVariants as cross
use Rattle.venue_rules.specs.declared.refusals.RequestRefusal.{RequestRefusal}
use Rattle.venue_rules.specs.declared.refusals.RequestRefusal.TheVariants as request
use Rattle.venue_rules.specs.declared.refusals.QuoteRefusal.{QuoteRefusal}
use Rattle.venue_rules.specs.declared.refusals.QuoteRefusal.TheVariants as quote
use Rattle.venue_rules.specs.declared.refusals.ResponseRefusal.{ResponseRefusal}
use Rattle.venue_rules.specs.declared.refusals.ResponseRefusal.TheVariants as response
use Rattle.venue_rules.specs.declared.refusals.MarketDataRefusal.{MarketDataRefusal}
use Rattle.venue_rules.specs.declared.refusals.MarketDataRefusal.TheVariants as market
use Rattle.venue_rules.specs.declared.replies.QuoteState.{QuoteState}
use Rattle.venue_rules.specs.declared.replies.QuoteState.TheVariants as state
use Rattle.venue_rules.specs.declared.replies.ReplyBody.{ReplyBody}
use Rattle.venue_rules.specs.declared.replies.ReplyBody.TheVariants as what

abbrev pub order_sentence : OrderRefusal → List ℕ
order_sentence order.UnknownInstrument = codes "no instrument has its symbol (55)"
order_sentence order.DuplicateClOrdId = codes "the sender used its identifier (11) before"
order_sentence order.UnsupportedOrder = codes "it is no limit order (40=2), or its time in force (59) is none of 0, 3 and 4"
order_sentence order.PriceOffTick = codes "its price (44) is no multiple of the instrument's tick"
order_sentence order.QuantityBelowLeast = codes "its quantity (38) is below the instrument's least"
order_sentence order.LinkedOrderTooRecent = codes "it would trade with a linked order that entered less than the instrument's delay before (17 CFR 37.9(b)(1), (b)(2))"
order_sentence order.BookSideFull = codes "what it does not fill would rest, but 200 orders of its side rest, and no more than 200 may"

abbrev pub change_sentence : ChangeRefusal → List ℕ
change_sentence change.UnknownOrder = codes "no order of the sender that rests or is held has the identifier that it names (41)"
change_sentence change.DuplicateClOrdId = codes "the sender used its identifier (11) before"
change_sentence change.HeldSide = codes "it names a held side of a cross, which is not replaced"
change_sentence change.UnsupportedOrder = codes "it is no limit order (40=2)"
change_sentence change.PriceOffTick = codes "its price (44) is no multiple of the tick of the order's instrument"
change_sentence change.QuantityBelowLeast = codes "its quantity (38) is below the least of the order's instrument"
change_sentence change.QuantityAlreadyFilled = codes "its quantity (38) is not above what the order has filled"
change_sentence change.LinkedOrderTooRecent = codes "it would trade with a linked order that entered less than the instrument's delay before (17 CFR 37.9(b)(1), (b)(2))"

abbrev pub cross_sentence : CrossRefusal → List ℕ
cross_sentence cross.UnknownInstrument = codes "no instrument has its symbol (55)"
cross_sentence cross.DuplicateCrossId = codes "the sender used its identifier (548) before"
cross_sentence cross.DuplicateClOrdId = codes "the sender used an identifier of its sides (11) before, or both have the same"
cross_sentence cross.UnsupportedOrder = codes "it is no cross of type 4 (549) with a first side (550=1 or 2) at a limit (40=2)"
cross_sentence cross.OneBuyAndOneSell = codes "both of its sides are to buy, or both to sell"
cross_sentence cross.PriceOffTick = codes "its price (44) is no multiple of the instrument's tick"
cross_sentence cross.Quantity = codes "its sides have different quantities (38), or less than the instrument's least"
cross_sentence cross.LinkedOrderTooRecent = codes "its first side would trade with a linked order that entered less than the instrument's delay before (17 CFR 37.9(b)(1), (b)(2))"
cross_sentence cross.BookSideFull = codes "what its first side does not fill would rest, but 200 orders of that side rest, and no more than 200 may"
cross_sentence cross.TooManyHeld = codes "1000 second sides of crosses are held, and no more than 1000 may be"

abbrev pub request_sentence : RequestRefusal → List ℕ
request_sentence request.DuplicateRequest = codes "the sender used its identifier (131) before"
request_sentence request.UnknownInstrument = codes "no instrument has its symbol (55)"
request_sentence request.QuantityBelowLeast = codes "its quantity (38) is below the instrument's least"
request_sentence request.UnknownParticipant = codes "one of its recipients is no participant"
request_sentence request.RequesterAmongRecipients = codes "the sender is one of its recipients"
request_sentence request.RecipientTwice = codes "a participant is named twice among its recipients"
request_sentence request.TooManyRecipients = codes "it has more than 12 recipients"
request_sentence request.TooFewRecipients = codes "it has fewer than three recipients (17 CFR 37.9(a)(3))"
request_sentence request.RecipientsNotUnrelated = codes "no three of its recipients are unrelated to the sender and to each other (17 CFR 37.9(a)(3))"
request_sentence request.TooManyRequests = codes "1000 requests are open, and no more than 1000 may be"

abbrev pub quote_sentence : QuoteRefusal → List ℕ
quote_sentence quote.UnknownRequest = codes "no request has the identifier that it names (131)"
quote_sentence quote.NotAsked = codes "the sender is no recipient of the request"
quote_sentence quote.RoomOver = codes "the request has traded, or its end has passed"
quote_sentence quote.UnknownInstrument = codes "its symbol (55) is not that of the request's instrument"
quote_sentence quote.DuplicateQuote = codes "the sender used its identifier (117) before"
quote_sentence quote.NotTradeable = codes "it is not tradeable (537 is present, and not 1)"
quote_sentence quote.InvalidPrice = codes "no side that was asked has a price, a price (132, 133) is no multiple of the instrument's tick, or the bid is above the offer"
quote_sentence quote.Size = codes "a size (134, 135) is not the quantity of the request"
quote_sentence quote.EndPassed = codes "its end (62) is before the moment of this row"

abbrev pub response_sentence : ResponseRefusal → List ℕ
response_sentence response.UnsupportedResponse = codes "it is no hit (694=1) and no pass (694=6)"
response_sentence response.NotYours = codes "the quote was given to the request of another participant"
response_sentence response.Side = codes "its side (54) is not the one that was asked"
response_sentence response.InvalidPrice = codes "the quote has no price for the side"

abbrev pub market_sentence : MarketDataRefusal → List ℕ
market_sentence market.UnknownInstrument = codes "no instrument has its symbol (55)"
market_sentence market.SnapshotsOnly = codes "it asks for more than a snapshot (263 is not 0)"
market_sentence market.FullDepthOnly = codes "it asks for less than the whole book (264 is not 0)"

-- a field is missing
abbrev pub missing_sentence : BusinessRefusal → List ℕ
missing_sentence business.PriceMissing = codes "it has no price (44)"
missing_sentence business.QuoteMissing = codes "it names no quote (117)"
missing_sentence business.SideMissing = codes "both sides were asked for, and it names none (54)"
missing_sentence business.UnsupportedMessageType = codes "the venue does not process messages of this type"

-- a quote that is not found, to a response or to a withdrawal, and with its instrument where it was there
abbrev pub gone_sentence : Option (List ℕ) → List ℕ
gone_sentence None = codes "no quote has the identifier that it names (117)"
gone_sentence (Some symbol) = codes "the quote's maker quoted again in the request, or the request has traded"

abbrev pub not_found_sentence : (response_id symbol : Option (List ℕ)) → List ℕ
not_found_sentence None symbol = codes "the sender has no live quote, or none with the identifier that it names (117)"
not_found_sentence (Some id) symbol = gone_sentence symbol

abbrev pub state_sentence : QuoteState → (response_id symbol : Option (List ℕ)) → List ℕ
state_sentence (state.Refused cause) response_id symbol = quote_sentence cause
state_sentence (state.ResponseRefused cause) response_id symbol = response_sentence cause
state_sentence state.CancelUnsupported response_id symbol = codes "it withdraws neither one quote (298=5) nor all (298=4)"
state_sentence state.NotFound response_id symbol = not_found_sentence response_id symbol
state_sentence state.Withdrawn response_id symbol = codes "the quote was withdrawn or passed"
state_sentence state.Expired response_id symbol = codes "the quote's end has passed"
state_sentence _ response_id symbol = []

abbrev pub sentence : ReplyBody → List ℕ
sentence (what.OrderRefused r) = order_sentence r.cause
sentence (what.CrossRefused r) = cross_sentence r.cause
sentence (what.ChangeRefused r) = change_sentence r.cause
sentence (what.RequestRefused r) = request_sentence r.cause
sentence (what.QuoteStatus r) = state_sentence r.state r.response_id r.symbol
sentence (what.MarketDataReject r) = market_sentence r.cause
sentence (what.BusinessReject r) = missing_sentence r.cause
sentence _ = []
