-- The figures that decide a cause, besides those of the message itself.
use Rattle.std.specs.Prelude.{ℕ, pos, List, [], ◌∷◌, Option, Some, None, codes, decimal}
use Rattle.fix_fields.specs.Forms.{price_text}
use Rattle.fix_dictionary.specs.Text.{given}
use Rattle.fix_dictionary.specs.declared.messages.App.{App}
use Rattle.fix_dictionary.specs.declared.messages.App.TheVariants as app
use Rattle.fix_dictionary.specs.declared.messages.MarketDataRequest.{MarketDataRequest}
use Rattle.fix_dictionary.specs.declared.messages.NewOrderCross.{NewOrderCross}
use Rattle.fix_dictionary.specs.declared.messages.NewOrderSingle.{NewOrderSingle}
use Rattle.fix_dictionary.specs.declared.messages.Quote.{Quote}
use Rattle.fix_dictionary.specs.declared.messages.QuoteRequest.{QuoteRequest}
use Rattle.instruments.specs.declared.instruments.Instrument.{Instrument}
use Rattle.instruments.specs.Listing.{instrument_of, least_of, tick_of}
use Rattle.venue_rules.specs.declared.refusals.OrderRefusal.{OrderRefusal}
use Rattle.venue_rules.specs.declared.refusals.OrderRefusal.TheVariants as order
use Rattle.venue_rules.specs.declared.refusals.ChangeRefusal.{ChangeRefusal}
use Rattle.venue_rules.specs.declared.refusals.ChangeRefusal.TheVariants as change
use Rattle.venue_rules.specs.declared.refusals.CrossRefusal.{CrossRefusal}
use Rattle.venue_rules.specs.declared.refusals.CrossRefusal.TheVariants as cross
use Rattle.venue_rules.specs.declared.refusals.RequestRefusal.{RequestRefusal}
use Rattle.venue_rules.specs.declared.refusals.RequestRefusal.TheVariants as request
use Rattle.venue_rules.specs.declared.refusals.QuoteRefusal.{QuoteRefusal}
use Rattle.venue_rules.specs.declared.refusals.QuoteRefusal.TheVariants as quote
use Rattle.venue_rules.specs.declared.refusals.MarketDataRefusal.{MarketDataRefusal}
use Rattle.venue_rules.specs.declared.refusals.MarketDataRefusal.TheVariants as market
use Rattle.venue_rules.specs.declared.replies.ChangeRefused.{ChangeRefused}
use Rattle.venue_rules.specs.declared.replies.OrderStatus.{OrderStatus}
use Rattle.venue_rules.specs.declared.replies.QuoteState.{QuoteState}
use Rattle.venue_rules.specs.declared.replies.QuoteState.TheVariants as state
use Rattle.venue_rules.specs.declared.replies.ReplyBody.{ReplyBody}
use Rattle.venue_rules.specs.declared.replies.ReplyBody.TheVariants as what
use Rattle.message_words.specs.Parts.{Part}
use Rattle.refusal_causes.specs.declared.figures.Figures.{Figures}

abbrev pub no_figures : Figures
no_figures = record { identifier = None; instrument = None; price = None; tick = None; quantity = None; least = None; filled = None }

abbrev pub of_identifier : List ℕ → Figures
of_identifier id = record no_figures { identifier = Some id }

abbrev pub of_instrument : List ℕ → Figures
of_instrument symbol = record no_figures { instrument = Some symbol }

abbrev pub order_figures : List Instrument → NewOrderSingle → OrderRefusal → Figures
order_figures file d order.UnknownInstrument = of_instrument d.symbol
order_figures file d order.DuplicateClOrdId = of_identifier d.order_id
order_figures file d order.UnsupportedOrder = no_figures
order_figures file d order.PriceOffTick = record no_figures { instrument = Some d.symbol; price = d.price; tick = Some (pos (tick_of file (instrument_of file d.symbol))) }
order_figures file d order.QuantityBelowLeast = record no_figures { instrument = Some d.symbol; quantity = Some d.quantity; least = Some (least_of file (instrument_of file d.symbol)) }
order_figures file d order.LinkedOrderTooRecent = of_instrument d.symbol
order_figures file d order.BookSideFull = of_instrument d.symbol

abbrev pub cross_figures : List Instrument → NewOrderCross → CrossRefusal → Figures
cross_figures file d cross.UnknownInstrument = of_instrument d.symbol
cross_figures file d cross.DuplicateCrossId = of_identifier d.cross_id
cross_figures file d cross.DuplicateClOrdId = no_figures
cross_figures file d cross.UnsupportedOrder = no_figures
cross_figures file d cross.OneBuyAndOneSell = no_figures
cross_figures file d cross.PriceOffTick = record no_figures { instrument = Some d.symbol; price = d.price; tick = Some (pos (tick_of file (instrument_of file d.symbol))) }
cross_figures file d cross.Quantity = record no_figures { instrument = Some d.symbol; least = Some (least_of file (instrument_of file d.symbol)) }
cross_figures file d cross.LinkedOrderTooRecent = of_instrument d.symbol
cross_figures file d cross.BookSideFull = of_instrument d.symbol
cross_figures file d cross.TooManyHeld = no_figures

abbrev pub request_figures : List Instrument → QuoteRequest → RequestRefusal → Figures
request_figures file d request.DuplicateRequest = of_identifier d.request_id
request_figures file d request.UnknownInstrument = of_instrument d.symbol
request_figures file d request.QuantityBelowLeast = record no_figures { instrument = Some d.symbol; quantity = Some d.quantity; least = Some (least_of file (instrument_of file d.symbol)) }
request_figures file d request.UnknownParticipant = no_figures
request_figures file d request.RequesterAmongRecipients = no_figures
request_figures file d request.RecipientTwice = no_figures
request_figures file d request.TooManyRecipients = no_figures
request_figures file d request.TooFewRecipients = no_figures
request_figures file d request.RecipientsNotUnrelated = no_figures
request_figures file d request.TooManyRequests = no_figures

abbrev pub quote_figures : List Instrument → Quote → QuoteRefusal → Figures
quote_figures file d quote.UnknownRequest = of_identifier d.request_id
quote_figures file d quote.NotAsked = of_identifier d.request_id
quote_figures file d quote.RoomOver = of_identifier d.request_id
quote_figures file d quote.UnknownInstrument = of_instrument d.symbol
quote_figures file d quote.DuplicateQuote = of_identifier d.quote_id
quote_figures file d quote.NotTradeable = no_figures
quote_figures file d quote.InvalidPrice = record no_figures { instrument = Some d.symbol; tick = Some (pos (tick_of file (instrument_of file d.symbol))) }
quote_figures file d quote.Size = no_figures
quote_figures file d quote.EndPassed = no_figures

abbrev pub market_figures : List Instrument → MarketDataRequest → MarketDataRefusal → Figures
market_figures file d market.UnknownInstrument = of_instrument d.symbol
market_figures file d market.SnapshotsOnly = no_figures
market_figures file d market.FullDepthOnly = no_figures

abbrev pub filled_of : Option OrderStatus → Option ℕ
filled_of None = None
filled_of (Some st) = Some st.filled

abbrev pub change_figures : ChangeRefused → ChangeRefusal → Figures
change_figures r change.UnknownOrder = of_identifier r.original_id
change_figures r change.DuplicateClOrdId = of_identifier r.id
change_figures r change.HeldSide = of_identifier r.original_id
change_figures r change.UnsupportedOrder = no_figures
change_figures r change.PriceOffTick = no_figures
change_figures r change.QuantityBelowLeast = no_figures
change_figures r change.QuantityAlreadyFilled = record no_figures { filled = filled_of r.standing }
change_figures r change.LinkedOrderTooRecent = no_figures

-- By the message and the first reply to it.

abbrev pub order_figured : List Instrument → NewOrderSingle → ReplyBody → Figures
order_figured file d (what.OrderRefused r) = order_figures file d r.cause
order_figured file d _ = no_figures

abbrev pub cross_figured : List Instrument → NewOrderCross → ReplyBody → Figures
cross_figured file d (what.CrossRefused r) = cross_figures file d r.cause
cross_figured file d _ = no_figures

abbrev pub request_figured : List Instrument → QuoteRequest → ReplyBody → Figures
request_figured file d (what.RequestRefused r) = request_figures file d r.cause
request_figured file d _ = no_figures

abbrev pub state_figures : List Instrument → Quote → QuoteState → Figures
state_figures file d (state.Refused cause) = quote_figures file d cause
state_figures file d _ = no_figures

abbrev pub quote_figured : List Instrument → Quote → ReplyBody → Figures
quote_figured file d (what.QuoteStatus r) = state_figures file d r.state
quote_figured file d _ = no_figures

abbrev pub market_figured : List Instrument → MarketDataRequest → ReplyBody → Figures
market_figured file d (what.MarketDataReject r) = market_figures file d r.cause
market_figured file d _ = no_figures

abbrev pub change_figured : ReplyBody → Figures
change_figured (what.ChangeRefused r) = change_figures r r.cause
change_figured _ = no_figures

abbrev pub figures : List Instrument → App → ReplyBody → Figures
figures file (app.NewOrderSingle d) w = order_figured file d w
figures file (app.NewOrderCross d) w = cross_figured file d w
figures file (app.QuoteRequest d) w = request_figured file d w
figures file (app.Quote d) w = quote_figured file d w
figures file (app.MarketDataRequest d) w = market_figured file d w
figures file (app.OrderCancelRequest d) w = change_figured w
figures file (app.OrderCancelReplaceRequest d) w = change_figured w
figures file (app.QuoteResponse d) w = of_identifier d.quote_id
figures file (app.QuoteCancel d) w = record no_figures { identifier = d.quote_id }
figures file _ w = no_figures

-- of a held side that enters at a row of the clock
abbrev pub due_figures : ReplyBody → Figures
due_figures (what.OrderRefused r) = record no_figures { identifier = Some r.order.id; instrument = Some r.order.symbol }
due_figures _ = no_figures

abbrev pub figures_parts : Figures → List Part
figures_parts f =
    (codes "\n    identifier ", f.identifier)
    ∷ (codes "\n    instrument ", f.instrument)
    ∷ (codes "\n    price ", given price_text f.price)
    ∷ (codes "\n    tick ", given price_text f.tick)
    ∷ (codes "\n    quantity ", given decimal f.quantity)
    ∷ (codes "\n    least quantity ", given decimal f.least)
    ∷ (codes "\n    filled so far ", given decimal f.filled)
    ∷ []
