-- Events that are evidence (words): requests, quotes, orders and trades, read off the messages and the replies to them.
use Rattle.std.specs.Prelude.{ℕ, ℤ, Bool, true, false, List, [], ◌∷◌, ◌++◌, find, length, map, Option, Some, None, bytes_eq, if◌then◌else◌}
use Rattle.std.specs.List.{flat_map}
use Rattle.fix_dictionary.specs.declared.messages.App.{App}
use Rattle.fix_dictionary.specs.declared.messages.App.TheVariants.{QuoteRequest, Quote, QuoteCancel, QuoteResponse, QuoteStatusReport, QuoteRequestReject, NewOrderSingle, OrderCancelRequest, OrderCancelReplaceRequest, NewOrderCross, ExecutionReport, OrderCancelReject, MarketDataRequest, MarketDataSnapshot, MarketDataRequestReject, BusinessMessageReject, Unsupported}
use Rattle.instruments.specs.declared.instruments.Instrument.{Instrument}
use Rattle.instruments.specs.Listing.{delay_of, instrument_of}
use Rattle.venue_rules.specs.declared.replies.FilledReport.{FilledReport}
use Rattle.venue_rules.specs.declared.replies.OrderReport.{OrderReport}
use Rattle.venue_rules.specs.declared.replies.SnapshotEntry.{SnapshotEntry}
use Rattle.venue_rules.specs.declared.replies.BookSnapshot.{BookSnapshot}
use Rattle.venue_rules.specs.declared.replies.Reply.{Reply}
use Rattle.venue_rules.specs.declared.replies.RequestSent.{RequestSent}
use Rattle.venue_rules.specs.declared.replies.RoomReport.{RoomReport}
use Rattle.venue_rules.specs.declared.replies.ReplyBody.{ReplyBody}
use Rattle.venue_rules.specs.declared.replies.ReplyBody.TheVariants as what
use Rattle.trade_reconstruction.specs.declared.trigger.Trigger.{Trigger}
use Rattle.trade_reconstruction.specs.declared.trigger.Trigger.TheVariants as trigger
use Rattle.trade_reconstruction.specs.declared.trigger.Crossed.{Crossed}
use Rattle.trade_reconstruction.specs.declared.evidence_event.Linked.{Linked}
use Rattle.trade_reconstruction.specs.declared.evidence_event.EventKind.{EventKind}
use Rattle.trade_reconstruction.specs.declared.evidence_event.EventKind.TheVariants as said
use Rattle.trade_reconstruction.specs.declared.evidence_event.EvidenceEvent.{EvidenceEvent}
use Rattle.trade_reconstruction.specs.declared.finding.Query.TheVariants.{Entry}
use Rattle.trade_reconstruction.specs.Lines.{is_sought, link_of}

-- the link that a message carries at its row
abbrev pub link_at : ℕ → Option (List ℕ) → Option Linked
link_at row None = None
link_at row (Some link) = Some (record { link = link; row = row })

-- the link of the order that a participant entered under an identifier
abbrev pub link_known : List EvidenceEvent → ℕ → List ℕ → Option Linked
link_known words who id = link_of (find (is_sought (Entry who id)) words)

-- The content of a participant's message at a row that its replies depend on, after the events before; a replacement
-- has the link of the order it replaces, with the row of the message that carried it.
unfoldable pub trigger_in : List Instrument → List EvidenceEvent → ℕ → ℕ → App → Trigger
trigger_in xs words row who (QuoteRequest d) = trigger.Request (record { requester = who; request = d.request_id })
trigger_in xs words row who (Quote d) = trigger.Quote d.quote_id
trigger_in xs words row who (QuoteResponse d) = trigger.Response d.quote_id
trigger_in xs words row who (NewOrderSingle d) = trigger.Order (record { price = d.price; link = link_at row d.link_id })
trigger_in xs words row who (OrderCancelReplaceRequest d) = trigger.Order (record { price = d.price; link = link_known words who d.original_id })
trigger_in xs words row who (NewOrderCross d) = trigger.Cross (record { cross = d.cross_id; first = d.first.order_id; second = d.second.order_id; price = d.price; delay = delay_of xs (instrument_of xs d.symbol) })
trigger_in xs words row who (QuoteCancel d) = trigger.Other
trigger_in xs words row who (QuoteStatusReport d) = trigger.Other
trigger_in xs words row who (QuoteRequestReject d) = trigger.Other
trigger_in xs words row who (OrderCancelRequest d) = trigger.Other
trigger_in xs words row who (ExecutionReport d) = trigger.Other
trigger_in xs words row who (OrderCancelReject d) = trigger.Other
trigger_in xs words row who (MarketDataRequest d) = trigger.Other
trigger_in xs words row who (MarketDataSnapshot d) = trigger.Other
trigger_in xs words row who (MarketDataRequestReject d) = trigger.Other
trigger_in xs words row who (BusinessMessageReject d) = trigger.Other
trigger_in xs words row who (Unsupported kind) = trigger.Other

-- the price of a message's orders, and the link of its order (583)

abbrev pub price_in : Trigger → Option ℤ
price_in (trigger.Order o) = o.price
price_in (trigger.Cross x) = x.price
price_in _ = None

abbrev pub link_in : Trigger → Option Linked
link_in (trigger.Order o) = o.link
link_in _ = None

-- the maker's own identifier of its quote (117)
abbrev pub quote_id_in : Trigger → Option (List ℕ)
quote_id_in (trigger.Quote id) = Some id
quote_id_in _ = None

abbrev pub is_tick : Trigger → Bool
is_tick trigger.Tick = true
is_tick _ = false

-- Events of a reply.

-- a recipient of a request is asked
abbrev pub asked_in : Trigger → RequestSent → Option EventKind
asked_in (trigger.Request q) r = Some (said.Asked (record { requester = q.requester; request = q.request; room = r.room; symbol = r.symbol; side = r.side; quantity = r.quantity }))
asked_in _ r = None

-- a requester is shown a count of resting orders, with the first response
abbrev pub pictured_in : Trigger → BookSnapshot → Option EventKind
pictured_in (trigger.Quote id) p = Some (said.SnapshotSent (record { request = p.request_id; count = length p.entries }))
pictured_in _ p = None

-- a quote was hit
abbrev pub hit_in : Trigger → RoomReport → Option EventKind
hit_in (trigger.Response quote) r = Some (said.Hit (record { room = r.room; trade = r.trade; quote = quote; side = r.side; price = r.price; response = r.response_id }))
hit_in _ r = None

-- an order was filled by a trade
abbrev pub filled_of : FilledReport → Option ℕ → Option EventKind
filled_of f None = None
filled_of f (Some order) = Some (said.Filled (record { order = order; trade = f.trade }))

abbrev pub filled_in : FilledReport → Option EventKind
filled_in f = filled_of f f.order.order

-- an order entered, perhaps as a replacement
abbrev pub entered_of : Trigger → Option (List ℕ) → OrderReport → Option ℕ → Option EventKind
entered_of c original r None = None
entered_of c original r (Some order) = Some (said.Entered (record { order = order; id = r.id; symbol = r.symbol; side = r.side; quantity = r.left; price = price_in c; link = link_in c; original = original; at_tick = is_tick c }))

abbrev pub entered_in : Trigger → Option (List ℕ) → OrderReport → Option EventKind
entered_in c original r = entered_of c original r r.order

abbrev pub said_in : Trigger → ReplyBody → Option EventKind
said_in c (what.RequestSent r) = asked_in c r
said_in c (what.BookSnapshot p) = pictured_in c p
said_in c (what.QuoteSent q) = Some (said.Quoted (record { request = q.request_id; quote = q.quote; maker = q.maker; bid = q.bid; offer = q.offer; end = q.end; id = quote_id_in c }))
said_in c (what.OrderEntered r) = entered_in c None r
said_in c (what.OrderReplaced r) = entered_in c (Some r.original_id) r.order
said_in c (what.OrderFilled f) = filled_in f
said_in c (what.RoomTraded r) = hit_in c r
said_in c _ = None

-- with the first side of a cross, its other side is held
abbrev pub held_of : Crossed → OrderReport → EventKind
held_of x r = said.Held (record { id = if bytes_eq r.id x.first then x.second else x.first; cross = x.cross; delay = x.delay })

abbrev pub held_by : Trigger → OrderReport → Option EventKind
held_by (trigger.Cross x) r = Some (held_of x r)
held_by _ r = None

abbrev pub held_in : Trigger → ReplyBody → Option EventKind
held_in c (what.OrderEntered r) = held_by c r
held_in c _ = None

-- at a row and its moment, to an addressee
abbrev pub word : ℕ → ℕ → ℕ → EventKind → EvidenceEvent
word row moment to s = record { row = row; moment = moment; to = to; said = s }

abbrev pub said_by : ℕ → ℕ → ℕ → Option EventKind → List EvidenceEvent
said_by row moment to None = []
said_by row moment to (Some s) = word row moment to s ∷ []

-- the resting orders shown to a requester with the first response
abbrev pub shown_word : ℕ → ℕ → ℕ → List ℕ → SnapshotEntry → EvidenceEvent
shown_word row moment to request e = word row moment to (said.Shown (record { request = request; side = e.side; price = e.price; left = e.left; order = e.order }))

abbrev pub prices_words : ℕ → ℕ → ℕ → Trigger → BookSnapshot → List EvidenceEvent
prices_words row moment to (trigger.Quote id) p = map (shown_word row moment to p.request_id) p.entries
prices_words row moment to _ p = []

abbrev pub picture_of : ℕ → ℕ → ℕ → Trigger → ReplyBody → List EvidenceEvent
picture_of row moment to c (what.BookSnapshot p) = prices_words row moment to c p
picture_of row moment to c _ = []

abbrev pub picture_in : ℕ → ℕ → Trigger → Reply → List EvidenceEvent
picture_in row moment c r = picture_of row moment r.to c r.what

-- the events of a reply, at its row
unfoldable pub words_in : ℕ → ℕ → Trigger → Reply → List EvidenceEvent
words_in row moment c r = said_by row moment r.to (said_in c r.what) ++ (said_by row moment r.to (held_in c r.what) ++ picture_in row moment c r)

-- and of all replies
abbrev pub words_of : ℕ → ℕ → Trigger → List Reply → List EvidenceEvent
words_of row moment c replies = flat_map (words_in row moment c) replies
