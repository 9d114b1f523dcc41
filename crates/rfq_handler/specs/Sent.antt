use Rattle.std.specs.Prelude.{ℕ, Bool, true, false, List, [], ◌∷◌, Option, Some, None, option_map}
use Rattle.participants.specs.ParticipantFile.{ParticipantFile}
use Rattle.participants.specs.Relations.{name_of}
use Rattle.instruments.specs.declared.instruments.Instrument.{Instrument}
use Rattle.instruments.specs.Listing.{symbol_of}
use Rattle.venue_rules.specs.declared.facts.Fact.{Fact}
use Rattle.venue_rules.specs.declared.facts.Room.{Room}
use Rattle.venue_rules.specs.declared.facts.RoomQuote.{RoomQuote}
use Rattle.venue_rules.specs.declared.replies.SnapshotEntry.{SnapshotEntry}
use Rattle.venue_rules.specs.declared.replies.Reply.{Reply}
use Rattle.venue_rules.specs.declared.replies.QuoteState.{QuoteState}
use Rattle.venue_rules.specs.declared.replies.QuoteState.TheVariants as state
use Rattle.venue_rules.specs.declared.replies.ReplyBody.TheVariants.{BookSnapshot, QuoteSent, QuoteStatus, RequestSent, RoomTraded}
use Rattle.venue_rules.specs.Answer.{Answer, answers, reply}
use Rattle.venue_rules.specs.Book.{opposite, picture}
use Rattle.venue_rules.specs.Rooms.{printed, room_by_number}
use Rattle.rfq_room.specs.declared.decision.Hit.{Hit}

-- the request of a room, as sent to a recipient
abbrev pub request_sent : Room → List ℕ → ℕ → Reply
request_sent r symbol who = reply who (RequestSent (record { room = r.number; symbol = symbol; side = r.side; quantity = r.quantity }))

-- the status of a quote in a room, to its maker and to the requester
abbrev pub to_maker : Room → List ℕ → RoomQuote → QuoteState → Reply
to_maker r symbol q what = reply q.maker (QuoteStatus (record { quote_id = Some q.id; request_id = Some (printed 82 r.number); response_id = None; symbol = Some symbol; state = what }))

abbrev pub to_requester : Room → List ℕ → RoomQuote → QuoteState → Reply
to_requester r symbol q what = reply r.requester (QuoteStatus (record { quote_id = Some (printed 81 q.number); request_id = Some r.id; response_id = None; symbol = Some symbol; state = what }))

-- a report that names a quote alone, if one
abbrev pub named_status : ℕ → Option (List ℕ) → QuoteState → Answer
named_status who id what = answers (reply who (QuoteStatus (record { quote_id = id; request_id = None; response_id = None; symbol = None; state = what })) ∷ [])

-- both are sent the withdrawal of a quote, where its room exists
abbrev pub both_sent : List Instrument → RoomQuote → Option Room → List Reply
both_sent instruments q None = []
both_sent instruments q (Some r) = to_maker r (symbol_of instruments r.instrument) q state.Withdrawn ∷ to_requester r (symbol_of instruments r.instrument) q state.Withdrawn ∷ []

abbrev pub both_emitted : List Instrument → List Fact → RoomQuote → List Reply
both_emitted instruments facts q = both_sent instruments q (room_by_number facts q.room)

-- the symbol of a room, if any
abbrev pub symbol_in : List Instrument → Option Room → Option (List ℕ)
symbol_in instruments room = option_map (λ r. symbol_of instruments r.instrument) room

-- a quote, as sent on to the requester
abbrev pub quote_sent : ParticipantFile → Room → List ℕ → RoomQuote → Reply
quote_sent participants r symbol q = reply r.requester (QuoteSent (record { quote = q.number; request_id = r.id; maker = name_of participants q.maker; symbol = symbol; bid = q.bid; offer = q.offer; quantity = r.quantity; end = q.end }))

-- the book snapshot, as sent to the requester
abbrev pub prices_sent : Room → List ℕ → List SnapshotEntry → Reply
prices_sent r symbol entries = reply r.requester (BookSnapshot (record { request_id = r.id; symbol = symbol; entries = entries }))

-- the book snapshot of an instrument
unfoldable pub rests : List Fact → ℕ → List SnapshotEntry
rests book instrument = picture book instrument

-- sent unless the room has a quote
abbrev pub shown_unless : Bool → Room → List ℕ → List SnapshotEntry → List Reply
shown_unless true r symbol entries = []
shown_unless false r symbol entries = prices_sent r symbol entries ∷ []

-- the report of a trade in a room to one of its sides
abbrev pub traded_report : Room → List ℕ → ℕ → ℕ → Hit → Option (List ℕ) → ℕ → Reply
traded_report r symbol trade who hit response n = reply who (RoomTraded (record { report = n; room = r.number; symbol = symbol; side = hit.side; quantity = r.quantity; price = hit.price; trade = trade; response_id = response }))

-- the hit from the maker's side
abbrev pub other_side : Hit → Hit
other_side hit = record { side = opposite hit.side; price = hit.price }
