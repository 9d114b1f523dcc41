-- What the answer to a row says, read off its replies.
use Rattle.std.specs.Prelude.{ℕ, ◌+◌, ◌==◌, Bool, true, false, List, [], ◌∷◌, ◌++◌, Option, None, Some, is_some, if◌then◌else◌}
use Rattle.std.specs.List.{flat_map}
use Rattle.fix_dictionary.specs.declared.messages.App.{App}
use Rattle.fix_dictionary.specs.declared.messages.App.TheVariants.{QuoteRequest, Quote, QuoteResponse, NewOrderSingle, ExecutionReport, OrderCancelReject, QuoteRequestReject, QuoteStatusReport, MarketDataRequestReject, BusinessMessageReject}
use Rattle.fix_dictionary.specs.Values.{is_text}
use Rattle.venue_rules.specs.declared.refusals.OrderRefusal.{OrderRefusal}
use Rattle.venue_rules.specs.declared.refusals.OrderRefusal.TheVariants.{LinkedOrderTooRecent}
use Rattle.venue_rules.specs.declared.replies.OrderReport.{OrderReport}
use Rattle.venue_rules.specs.declared.replies.QuoteState.{QuoteState}
use Rattle.venue_rules.specs.declared.replies.QuoteState.TheVariants as state
use Rattle.venue_rules.specs.declared.replies.Reply.{Reply}
use Rattle.venue_rules.specs.declared.replies.ReplyBody.{ReplyBody}
use Rattle.venue_rules.specs.declared.replies.ReplyBody.TheVariants as reply
use Rattle.venue_rules.specs.declared.trail.Taken.{Taken}
use Rattle.venue_rules.specs.declared.trail.TrailRow.{TrailRow}
use Rattle.venue_rules.specs.Messages.{message}
use Rattle.day_events.specs.declared.event.Event.{Event}
use Rattle.day_events.specs.declared.event.Origin.{Origin}
use Rattle.day_events.specs.declared.event.What.{What}
use Rattle.day_events.specs.declared.event.What.TheVariants as what

-- what a message names: a quote its room (131), a response its quote (117), and an order its link (583)
abbrev pub named_in : App → Option (List ℕ)
named_in (Quote d) = Some d.request_id
named_in (QuoteResponse d) = Some d.quote_id
named_in (NewOrderSingle d) = d.link_id
named_in _ = None

-- the sender's own identifier of a request (131), a quote (117) or a response (693)
abbrev pub own_in : App → Option (List ℕ)
own_in (QuoteRequest d) = Some d.request_id
own_in (Quote d) = Some d.quote_id
own_in (QuoteResponse d) = Some d.response_id
own_in _ = None

abbrev pub origin_of : TrailRow → Option Taken → Origin
origin_of r None = record { row = r.n; moment = r.moment; from = r.who; named = None; own = None }
origin_of r (Some taken) = record { row = r.n; moment = r.moment; from = r.who; named = named_in taken.item.app; own = own_in taken.item.app }

abbrev pub event : Origin → ℕ → What → Event
event o to w = record { at = o; to = to; what = w }

-- that a quote ended, by the state that is reported
abbrev pub ended : Origin → ℕ → Option (List ℕ) → QuoteState → List Event
ended o to quote state.Withdrawn = event o to (what.Withdrawn quote) ∷ []
ended o to quote state.Passed = event o to what.Passed ∷ []
ended o to quote _ = []

-- somebody else than the row's sender is sent this
abbrev pub ended_for_other : Bool → Origin → ℕ → Option (List ℕ) → QuoteState → List Event
ended_for_other true o to quote s = []
ended_for_other false o to quote s = ended o to quote s

-- an order that is refused since a linked one is too recent
abbrev pub too_recent : Origin → ℕ → OrderReport → OrderRefusal → List Event
too_recent o to r LinkedOrderTooRecent = event o to (what.TooRecent (record { symbol = r.symbol; side = r.side })) ∷ []
too_recent o to r _ = []

abbrev pub reported_what : Origin → ℕ → ReplyBody → List Event
reported_what o to (reply.OrderRefused r) = too_recent o to r.order r.cause
reported_what o to (reply.OrderEntered r) = event o to (what.Entered (record { order = r.order; id = r.id; symbol = r.symbol; side = r.side; left = r.left })) ∷ []
reported_what o to (reply.OrderFilled r) = event o to (what.Filled (record { trade = r.trade; order = r.order.order; id = r.order.id; side = r.order.side })) ∷ []
reported_what o to (reply.OrderCancelled r) = event o to (what.Cancelled r.order.order) ∷ []
reported_what o to (reply.OrderReplaced r) = event o to (what.Replaced (record { order = r.order.order; id = r.order.id; original_id = r.original_id })) ∷ []
reported_what o to (reply.RequestSent r) = event o to (what.Asked (record { room = r.room; symbol = r.symbol; side = r.side; quantity = r.quantity })) ∷ []
reported_what o to (reply.QuoteStatus r) = ended_for_other (to + 1 == o.from) o to r.quote_id r.state
reported_what o to (reply.QuoteSent r) = event o to (what.Quoted (record { quote = r.quote; bid = r.bid; offer = r.offer; end = r.end })) ∷ []
reported_what o to (reply.RoomTraded r) = event o to (what.Traded (record { room = r.room; trade = r.trade; side = r.side; price = r.price; response = r.response_id })) ∷ []
reported_what o to _ = []

abbrev pub reported : Origin → Reply → List Event
reported o r = reported_what o r.to r.what

-- The refusal of a row: its first reply that refuses.

-- by whether it names a response: a status is of a quote that was withdrawn, or refuses a response to one
abbrev pub is_refusing : Option (List ℕ) → QuoteState → Bool
is_refusing response state.Accepted = false
is_refusing response state.Passed = false
is_refusing response state.Withdrawn = is_some response
is_refusing response _ = true

abbrev pub is_refusal : ReplyBody → Bool
is_refusal (reply.OrderRefused r) = true
is_refusal (reply.CrossRefused r) = true
is_refusal (reply.ChangeRefused r) = true
is_refusal (reply.RequestRefused r) = true
is_refusal (reply.QuoteStatus r) = is_refusing r.response_id r.state
is_refusal (reply.MarketDataReject r) = true
is_refusal (reply.BusinessReject r) = true
is_refusal _ = false

-- a text of at most 64 bytes; none in the place of a longer one
abbrev pub short : Option (List ℕ) → Option (List ℕ)
short None = None
short (Some text) = if is_text 64 text then Some text else None

abbrev pub cause_in : App → Option (List ℕ)
cause_in (ExecutionReport d) = short d.text
cause_in (OrderCancelReject d) = short d.text
cause_in (QuoteRequestReject d) = short d.text
cause_in (QuoteStatusReport d) = short d.text
cause_in (MarketDataRequestReject d) = short d.text
cause_in (BusinessMessageReject d) = short d.text
cause_in _ = None

-- the text (58) of a reply
abbrev pub cause : ReplyBody → Option (List ℕ)
cause r = cause_in (message r)

abbrev pub refused_at : Origin → List Reply → List Event
refused_at o [] = []
refused_at o (r ∷ rs) = if is_refusal r.what then event o r.to (what.Refused (cause r.what)) ∷ [] else refused_at o rs

-- what the answer to a row says: reply by reply, and then its refusal
abbrev pub events_at : TrailRow → Option Taken → List Reply → List Event
events_at r taken replies = flat_map (reported (origin_of r taken)) replies ++ refused_at (origin_of r taken) replies
