-- The evidence for a trade, as lines: plain words with units, one fact each, with its row at the end.
--
-- In a room (17 CFR 37.9(a)(2), (a)(3)): the request; three unrelated recipients; each recipient, with its relation to
-- the requester and to the other recipients; the resting orders shown with the first response; each quote; the hit;
-- what had become of each quote; the trade.
--
-- In the book (17 CFR 37.9(b)(1)): the resting order and the entering one, each with the moment of its entry and its
-- link; what rested before the resting one as the other entered; the relation of their participants; whether the two
-- are the sides of one cross; whether they are linked; the time between their entries; the delay of the instrument; the
-- trade.
use Rattle.std.specs.Prelude.{ℕ, ℤ, ◌+◌, ◌-◌, min, Bool, true, false, not, ◌&&◌, ◌||◌, ◌==◌, nat_lt, List, [], ◌∷◌, ◌++◌, find, Option, Some, None, slice_get, codes, decimal, bytes_eq, if◌then◌else◌}
use Rattle.std.specs.List.{flat_map}
use Rattle.sef_moment.specs.Utc.{greatest}
use Rattle.sef_moment.specs.Utc.{utc_text}
use Rattle.fix_dictionary.specs.declared.values.Side.{Side}
use Rattle.fix_dictionary.specs.declared.values.Side.TheVariants.{Buy, Sell}
use Rattle.fix_fields.specs.Forms.{price_text}
use Rattle.participants.specs.ParticipantFile.{ParticipantFile}
use Rattle.participants.specs.Relations.{name_of, related}
use Rattle.instruments.specs.declared.instruments.Instrument.{Instrument}
use Rattle.instruments.specs.Listing.{delay_of, symbol_of}
use Rattle.venue_rules.specs.Book.{is_same_link}
use Rattle.venue_rules.specs.Market.{Market}
use Rattle.venue_rules.specs.declared.trail.TradeFact.{TradeFact}
use Rattle.venue_rules.specs.declared.trail.TrailRow.{TrailRow}
use Rattle.trade_blotter.specs.Line.{deal}
use Rattle.trade_reconstruction.specs.declared.unrelated.Three.{Three}
use Rattle.trade_reconstruction.specs.Unrelated.{three_of}
use Rattle.trade_reconstruction.specs.declared.entry.Both.{Both}
use Rattle.trade_reconstruction.specs.declared.entry.Entry.{Entry as OrderEntry}
use Rattle.trade_reconstruction.specs.declared.finding.Query.{Query}
use Rattle.trade_reconstruction.specs.declared.finding.Query.TheVariants.{Request, Order, Fill, OtherFill, FillAt, Hit, HeldSide, Entry}
use Rattle.trade_reconstruction.specs.declared.evidence_event.EvidenceEvent.{EvidenceEvent}
use Rattle.trade_reconstruction.specs.declared.evidence_event.EventKind.{EventKind}
use Rattle.trade_reconstruction.specs.declared.evidence_event.EventKind.TheVariants as said
use Rattle.trade_reconstruction.specs.declared.evidence_event.Asked.{Asked}
use Rattle.trade_reconstruction.specs.declared.evidence_event.SnapshotSent.{SnapshotSent}
use Rattle.trade_reconstruction.specs.declared.evidence_event.Shown.{Shown}
use Rattle.trade_reconstruction.specs.declared.evidence_event.Quoted.{Quoted}
use Rattle.trade_reconstruction.specs.declared.evidence_event.Hit.{Hit as HitSaid}
use Rattle.trade_reconstruction.specs.declared.evidence_event.Entered.{Entered}
use Rattle.trade_reconstruction.specs.declared.evidence_event.Linked.{Linked}
use Rattle.trade_reconstruction.specs.declared.evidence_event.RestedBefore.{RestedBefore}
use Rattle.trade_reconstruction.specs.declared.evidence_event.RestedCount.{RestedCount}
use Rattle.trade_reconstruction.specs.declared.sent.Sent.{Sent}
use Rattle.trade_reconstruction.specs.declared.key.Key.{Key}
use Rattle.trade_reconstruction.specs.declared.key.Key.TheVariants.{First, Second}
use Rattle.trade_reconstruction.specs.Indexed.{name_key}

-- Tests of events.

abbrev pub is_asked_said : ℕ → EventKind → Bool
is_asked_said room (said.Asked a) = a.room == room
is_asked_said room _ = false

-- somebody was asked in this room
abbrev pub is_asked : ℕ → EvidenceEvent → Bool
is_asked room w = is_asked_said room w.said

abbrev pub enters_said : ℕ → EventKind → Bool
enters_said order (said.Entered e) = e.order == order
enters_said order _ = false

-- this order entered
abbrev pub enters : ℕ → EvidenceEvent → Bool
enters order w = enters_said order w.said

abbrev pub fills_said : ℕ → EventKind → Bool
fills_said trade (said.Filled f) = f.trade == trade
fills_said trade _ = false

-- this trade filled an order
abbrev pub fills : ℕ → EvidenceEvent → Bool
fills trade w = fills_said trade w.said

abbrev pub fills_other_said : ℕ → ℕ → EventKind → Bool
fills_other_said trade order (said.Filled f) = f.trade == trade && not (f.order == order)
fills_other_said trade order _ = false

-- this trade filled another order than this
abbrev pub fills_other : ℕ → ℕ → EvidenceEvent → Bool
fills_other trade order w = fills_other_said trade order w.said

abbrev pub fills_at_said : ℕ → ℕ → ℕ → EventKind → Bool
fills_at_said order row at (said.Filled f) = f.order == order && at == row
fills_at_said order row at _ = false

-- this order was filled at this row
abbrev pub fills_at : ℕ → ℕ → EvidenceEvent → Bool
fills_at order row w = fills_at_said order row w.row w.said

abbrev pub hits_said : ℕ → EventKind → Bool
hits_said trade (said.Hit x) = x.trade == trade
hits_said trade _ = false

-- this trade was made by a hit
abbrev pub hits : ℕ → EvidenceEvent → Bool
hits trade w = hits_said trade w.said

abbrev pub holds_said : ℕ → List ℕ → ℕ → EventKind → Bool
holds_said who id to (said.Held x) = to == who && bytes_eq x.id id
holds_said who id to _ = false

-- this participant's order of this identifier is held
abbrev pub holds : ℕ → List ℕ → EvidenceEvent → Bool
holds who id w = holds_said who id w.to w.said

abbrev pub is_entry_said : ℕ → List ℕ → ℕ → EventKind → Bool
is_entry_said who id to (said.Entered e) = to == who && bytes_eq e.id id
is_entry_said who id to _ = false

-- this participant's order of this identifier entered
abbrev pub is_entry : ℕ → List ℕ → EvidenceEvent → Bool
is_entry who id w = is_entry_said who id w.to w.said

abbrev pub is_sought : Query → EvidenceEvent → Bool
is_sought (Request room) w = is_asked room w
is_sought (Order order) w = enters order w
is_sought (Fill trade) w = fills trade w
is_sought (OtherFill trade order) w = fills_other trade order w
is_sought (FillAt order row) w = fills_at order row w
is_sought (Hit trade) w = hits trade w
is_sought (HeldSide who id) w = holds who id w
is_sought (Entry who id) w = is_entry who id w

-- a key of all events that are sought
abbrev pub key_of : Query → Key
key_of (Request room) = First room
key_of (Order order) = First order
key_of (Fill trade) = First trade
key_of (OtherFill trade order) = First trade
key_of (FillAt order row) = Second order
key_of (Hit trade) = Second trade
key_of (HeldSide who id) = First (name_key who id)
key_of (Entry who id) = Second (name_key who id)

abbrev pub order_said : EventKind → Option ℕ
order_said (said.Filled f) = Some f.order
order_said _ = None

abbrev pub order_in : EvidenceEvent → Option ℕ
order_in w = order_said w.said

-- the order that is filled
abbrev pub order_of : Option EvidenceEvent → Option ℕ
order_of None = None
order_of (Some w) = order_in w

abbrev pub trade_said : EventKind → Option ℕ
trade_said (said.Filled f) = Some f.trade
trade_said _ = None

abbrev pub trade_in : EvidenceEvent → Option ℕ
trade_in w = trade_said w.said

-- the trade that filled an order
abbrev pub trade_of : Option EvidenceEvent → Option ℕ
trade_of None = None
trade_of (Some w) = trade_in w

abbrev pub link_said : EventKind → Option Linked
link_said (said.Entered e) = e.link
link_said _ = None

abbrev pub link_in : EvidenceEvent → Option Linked
link_in w = link_said w.said

-- the link of the order that entered, with the row of the message that carried it
abbrev pub link_of : Option EvidenceEvent → Option Linked
link_of None = None
link_of (Some w) = link_in w

abbrev pub row_of : Option EvidenceEvent → ℕ
row_of None = 0
row_of (Some w) = w.row

-- Parts of lines.

-- the row that supports a line, and its end
abbrev pub row_text : ℕ → List ℕ
row_text row = codes " row " ++ (decimal row ++ codes "\n")

abbrev pub is_row : ℕ → TrailRow → Bool
is_row row r = r.n == row

-- the row with a number: the one at its place, if it has this number, or else the first that has it

abbrev pub this_row : List TrailRow → ℕ → Option TrailRow → Option TrailRow
this_row rs row None = find (is_row row) rs
this_row rs row (Some r) = if is_row row r then Some r else find (is_row row) rs

abbrev pub row_at : List TrailRow → ℕ → Option TrailRow
row_at rs row = this_row rs row (slice_get rs (row - 1))

-- its message: the sender, and the sender's own number of it and era; a tick has none

abbrev pub sent_in : TrailRow → Option Sent
sent_in r = if r.who == 0 then None else Some (record { who = r.who - 1; era = r.era; number = r.number })

abbrev pub sent_of : Option TrailRow → Option Sent
sent_of None = None
sent_of (Some r) = sent_in r

abbrev pub sent_at : List TrailRow → ℕ → Option Sent
sent_at rs row = sent_of (row_at rs row)

-- the first era is not named
abbrev pub era_text : ℕ → List ℕ
era_text era = if era == 1 then [] else codes " of era " ++ decimal era

abbrev pub sent_text : ParticipantFile → Option Sent → List ℕ
sent_text file None = []
sent_text file (Some x) = codes ", in message " ++ (decimal x.number ++ (era_text x.era ++ (codes " of " ++ name_of file x.who)))

-- the message at a row with its sender's name, and the row, which end a line
abbrev pub sent_row : List TrailRow → ParticipantFile → ℕ → List ℕ
sent_row rs file row = sent_text file (sent_at rs row) ++ row_text row

abbrev pub at_text : ℕ → List ℕ
at_text t = codes " at " ++ utc_text t

abbrev pub moment_in : Option TrailRow → List ℕ
moment_in None = []
moment_in (Some r) = at_text r.moment

-- the moment of a row
abbrev pub moment_text : List TrailRow → ℕ → List ℕ
moment_text rs row = moment_in (row_at rs row)

-- the relation of two participants, by the participant file
abbrev pub relation : ParticipantFile → ℕ → ℕ → List ℕ
relation file one other = if one == other then codes " are one participant" else if related file one other then codes " are related" else codes " are not related"

abbrev pub pair_line : ParticipantFile → ℕ → ℕ → ℕ → List ℕ
pair_line file one other row = name_of file one ++ (codes " and " ++ (name_of file other ++ (relation file one other ++ row_text row)))

-- In a room.

abbrev pub asked_side : Option Side → List ℕ
asked_side None = codes " for both sides of "
asked_side (Some Buy) = codes " to buy "
asked_side (Some Sell) = codes " to sell "

-- somebody's own identifier of an order, a room or a quote
abbrev pub id_text : List ℕ → ℕ → List ℕ → List ℕ → List ℕ
id_text kind number said id = kind ++ (decimal number ++ (said ++ id))

abbrev pub request_terms : ParticipantFile → EvidenceEvent → Asked → List ℕ
request_terms file w a = codes "request in room R" ++ (decimal a.room ++ (codes " of " ++ (name_of file a.requester ++ (asked_side a.side ++ (decimal a.quantity ++ (codes " " ++ (a.symbol ++ (at_text w.moment ++ row_text w.row))))))))

abbrev pub request_id_line : List TrailRow → ParticipantFile → EvidenceEvent → Asked → List ℕ
request_id_line rs file w a = id_text (codes "R") a.room (codes " has the QuoteReqID ") a.request ++ sent_row rs file w.row

abbrev pub request_line : List TrailRow → ParticipantFile → EvidenceEvent → Asked → List ℕ
request_line rs file w a = request_terms file w a ++ request_id_line rs file w a

-- the relation of a recipient to another recipient of the room who comes before it in the file
abbrev pub other_line : ParticipantFile → ℕ → ℕ → ℕ → EvidenceEvent → List ℕ
other_line file room who row other = if is_asked room other && nat_lt other.to who then pair_line file who other.to row else []

abbrev pub others : ParticipantFile → List EvidenceEvent → ℕ → ℕ → ℕ → List ℕ
others file words room who row = flat_map (other_line file room who row) words

abbrev pub asked_lines : ParticipantFile → List EvidenceEvent → EvidenceEvent → Asked → List ℕ
asked_lines file words w a = codes "asked " ++ (name_of file w.to ++ (row_text w.row ++ (pair_line file w.to a.requester w.row ++ others file words a.room w.to w.row)))

abbrev pub pictured_line : EvidenceEvent → SnapshotSent → List ℕ
pictured_line w p = codes "resting orders shown with the first response: " ++ (decimal p.count ++ row_text w.row)

abbrev pub shown_side : Side → List ℕ
shown_side Buy = codes " bid "
shown_side Sell = codes " offer "

abbrev pub shown_line : EvidenceEvent → Shown → List ℕ
shown_line w s = codes "shown O" ++ (decimal s.order ++ (shown_side s.side ++ (decimal s.left ++ (codes " @ " ++ (price_text s.price ++ row_text w.row)))))

abbrev pub price_or_none : Option ℤ → List ℕ
price_or_none None = codes "none"
price_or_none (Some price) = price_text price

abbrev pub quote_terms : EvidenceEvent → Quoted → List ℕ
quote_terms w q = codes "quote Q" ++ (decimal q.quote ++ (codes " of " ++ (q.maker ++ (codes " bid " ++ (price_or_none q.bid ++ (codes " offer " ++ (price_or_none q.offer
    ++ (codes " until " ++ (utc_text q.end ++ (at_text w.moment ++ row_text w.row))))))))))

abbrev pub quote_id_line : List TrailRow → ParticipantFile → EvidenceEvent → Quoted → Option (List ℕ) → List ℕ
quote_id_line rs file w q None = []
quote_id_line rs file w q (Some id) = id_text (codes "Q") q.quote (codes " has the QuoteID ") id ++ sent_row rs file w.row

abbrev pub quote_line : List TrailRow → ParticipantFile → EvidenceEvent → Quoted → List ℕ
quote_line rs file w q = quote_terms w q ++ quote_id_line rs file w q q.id

abbrev pub hit_side : Side → List ℕ
hit_side Buy = codes " to buy at "
hit_side Sell = codes " to sell at "

abbrev pub response_text : Option (List ℕ) → List ℕ
response_text None = []
response_text (Some id) = codes " with the QuoteRespID " ++ id

-- who hit which quote, on which side and at what price
abbrev pub hit_line : List TrailRow → ParticipantFile → EvidenceEvent → HitSaid → List ℕ
hit_line rs file w x = codes "hit of quote " ++ (x.quote ++ (codes " by " ++ (name_of file w.to ++ (hit_side x.side ++ (price_text x.price ++ (response_text x.response ++ (at_text w.moment ++ sent_row rs file w.row)))))))

-- to the requester, on its request
abbrev pub is_to : Asked → ℕ → List ℕ → Bool
is_to a to request = to == a.requester && bytes_eq request a.request

-- that somebody was asked in the room of a request

abbrev pub asked_said : ParticipantFile → List EvidenceEvent → Asked → EvidenceEvent → EventKind → List ℕ
asked_said file words a w (said.Asked b) = if b.room == a.room then asked_lines file words w b else []
asked_said file words a w _ = []

unfoldable pub asked_word : ParticipantFile → List EvidenceEvent → Asked → EvidenceEvent → List ℕ
asked_word file words a w = asked_said file words a w w.said

-- what the requester was sent on its request

abbrev pub answered_said : List TrailRow → ParticipantFile → Asked → EvidenceEvent → EventKind → List ℕ
answered_said rs file a w (said.SnapshotSent p) = if is_to a w.to p.request then pictured_line w p else []
answered_said rs file a w (said.Shown s) = if is_to a w.to s.request then shown_line w s else []
answered_said rs file a w (said.Quoted q) = if is_to a w.to q.request then quote_line rs file w q else []
answered_said rs file a w _ = []

unfoldable pub answered_word : List TrailRow → ParticipantFile → Asked → EvidenceEvent → List ℕ
answered_word rs file a w = answered_said rs file a w w.said

-- the requester's hit in its room

abbrev pub hit_said : List TrailRow → ParticipantFile → Asked → EvidenceEvent → EventKind → List ℕ
hit_said rs file a w (said.Hit x) = if x.room == a.room && w.to == a.requester then hit_line rs file w x else []
hit_said rs file a w _ = []

unfoldable pub hit_word : List TrailRow → ParticipantFile → Asked → EvidenceEvent → List ℕ
hit_word rs file a w = hit_said rs file a w w.said

-- the recipients, what was shown and quoted, and the hit, each in the order of events
abbrev pub words_lines : List TrailRow → ParticipantFile → List EvidenceEvent → Asked → List ℕ
words_lines rs file words a = flat_map (asked_word file words a) words ++ (flat_map (answered_word rs file a) words ++ flat_map (hit_word rs file a) words)

-- the recipients of a room's request, in the order in which they were asked

abbrev pub recipient_in : ℕ → EvidenceEvent → List ℕ
recipient_in room w = if is_asked room w then w.to ∷ [] else []

abbrev pub recipients_of : ℕ → List EvidenceEvent → List ℕ
recipients_of room words = flat_map (recipient_in room) words

abbrev pub three_text : ParticipantFile → ℕ → Three → ℕ → List ℕ
three_text file requester x row = name_of file x.first ++ (codes ", " ++ (name_of file x.second ++ (codes " and " ++ (name_of file x.third
    ++ (codes " are unrelated to " ++ (name_of file requester ++ (codes " and to each other" ++ row_text row)))))))

abbrev pub three_if : ParticipantFile → ℕ → Option Three → ℕ → List ℕ
three_if file requester None row = []
three_if file requester (Some x) row = three_text file requester x row

-- the line that names three recipients unrelated to the requester and to each other
abbrev pub three_line : ParticipantFile → List EvidenceEvent → EvidenceEvent → Asked → List ℕ
three_line file words w a = three_if file a.requester (three_of file a.requester (recipients_of a.room words)) w.row

abbrev pub room_found_said : List TrailRow → ParticipantFile → List EvidenceEvent → EvidenceEvent → EventKind → List ℕ
room_found_said rs file words w (said.Asked a) = request_line rs file w a ++ (three_line file words w a ++ words_lines rs file words a)
room_found_said rs file words w _ = []

abbrev pub room_found : List TrailRow → ParticipantFile → List EvidenceEvent → EvidenceEvent → List ℕ
room_found rs file words w = room_found_said rs file words w w.said

abbrev pub room_of : List TrailRow → ParticipantFile → List EvidenceEvent → Option EvidenceEvent → List ℕ
room_of rs file words None = []
room_of rs file words (Some w) = room_found rs file words w

-- the request, and then the recipients, what was shown and quoted, and the hit
abbrev pub room_lines : List TrailRow → ParticipantFile → List EvidenceEvent → ℕ → List ℕ
room_lines rs file words room = room_of rs file words (find (is_sought (Request room)) words)

-- In the book.

abbrev pub side_text : Side → List ℕ
side_text Buy = codes " to buy "
side_text Sell = codes " to sell "

abbrev pub price_if : Option ℤ → List ℕ
price_if None = []
price_if (Some price) = codes " @ " ++ price_text price

abbrev pub held_until_said : EvidenceEvent → EventKind → ℕ
held_until_said w (said.Held x) = min (w.moment + x.delay) greatest
held_until_said w _ = w.moment

-- the end of a held side's delay
abbrev pub held_until : EvidenceEvent → ℕ
held_until w = held_until_said w w.said

abbrev pub moment_of : ℕ → Option EvidenceEvent → ℕ
moment_of t None = t
moment_of t (Some hold) = held_until hold

-- the moment at which an order entered: of a held side the end of its delay, which may be before the tick
abbrev pub entry_moment : List EvidenceEvent → EvidenceEvent → Entered → ℕ
entry_moment words w e = if e.at_tick then moment_of w.moment (find (is_sought (HeldSide w.to e.id)) words) else w.moment

abbrev pub entry_said : List EvidenceEvent → EvidenceEvent → EventKind → Option OrderEntry
entry_said words w (said.Entered e) = Some (record { row = w.row; to = w.to; moment = entry_moment words w e; entered = e })
entry_said words w _ = None

abbrev pub entry_in : List EvidenceEvent → EvidenceEvent → Option OrderEntry
entry_in words w = entry_said words w w.said

-- the entry of an order: its row, its participant, its moment, and the event
abbrev pub entry_of : List EvidenceEvent → Option EvidenceEvent → Option OrderEntry
entry_of words None = None
entry_of words (Some w) = entry_in words w

abbrev pub order_terms : ParticipantFile → OrderEntry → List ℕ
order_terms file x = codes "order O" ++ (decimal x.entered.order ++ (codes " of " ++ (name_of file x.to ++ (side_text x.entered.side ++ (decimal x.entered.quantity ++ (codes " " ++ (x.entered.symbol
    ++ (price_if x.entered.price ++ (at_text x.moment ++ row_text x.row)))))))))

abbrev pub order_id_line : List TrailRow → ParticipantFile → OrderEntry → List ℕ
order_id_line rs file x = id_text (codes "O") x.entered.order (codes " has the ClOrdID ") x.entered.id ++ sent_row rs file x.row

abbrev pub order_line : List TrailRow → ParticipantFile → OrderEntry → List ℕ
order_line rs file x = order_terms file x ++ order_id_line rs file x

-- the line of an order with an identifier
abbrev pub named_line : ℕ → List ℕ → List ℕ → ℕ → List ℕ
named_line order said id row = codes "O" ++ (decimal order ++ (said ++ (id ++ row_text row)))

-- the link of an order, where it has one, with the row of the message that carried it, which may be that of an order
-- which it replaces
abbrev pub link_line : ℕ → Option Linked → List ℕ
link_line order None = []
link_line order (Some l) = named_line order (codes " carries the link ") l.link l.row

abbrev pub original_line : ℕ → Option (List ℕ) → ℕ → List ℕ
original_line order None row = []
original_line order (Some id) row = named_line order (codes " takes the place, for 38 less what was filled before, of the order with the identifier ") id row

abbrev pub held_said : List TrailRow → ParticipantFile → ℕ → EvidenceEvent → EventKind → List ℕ
held_said rs file order w (said.Held x) = codes "O" ++ (decimal order ++ (codes " was held as the second side of cross " ++ (x.cross ++ (codes " for " ++ (decimal x.delay ++ (codes " ms from " ++ (utc_text w.moment ++ sent_row rs file w.row)))))))
held_said rs file order w _ = []

abbrev pub held_line : List TrailRow → ParticipantFile → ℕ → EvidenceEvent → List ℕ
held_line rs file order w = held_said rs file order w w.said

abbrev pub hold_of : List TrailRow → ParticipantFile → ℕ → Option EvidenceEvent → List ℕ
hold_of rs file order None = []
hold_of rs file order (Some hold) = held_line rs file order hold

-- what enters at a tick was held before
abbrev pub hold_lines : List TrailRow → ParticipantFile → List EvidenceEvent → OrderEntry → List ℕ
hold_lines rs file words x = if x.entered.at_tick then hold_of rs file x.entered.order (find (is_sought (HeldSide x.to x.entered.id)) words) else []

unfoldable pub entry_lines : List TrailRow → ParticipantFile → List EvidenceEvent → OrderEntry → List ℕ
entry_lines rs file words x = order_line rs file x ++ (link_line x.entered.order x.entered.link ++ (original_line x.entered.order x.entered.original x.row ++ hold_lines rs file words x))

abbrev pub apart_line : ℕ → ℕ → ℕ → List ℕ
apart_line earlier later row = codes "entered " ++ (decimal (later - earlier) ++ (codes " ms apart" ++ row_text row))

-- two orders of one participant, of related ones, or with one link (17 CFR 37.9(b)(1))
abbrev pub are_linked : ParticipantFile → ℕ → Option (List ℕ) → ℕ → Option (List ℕ) → Bool
are_linked file one link other other_link = one == other || (related file one other || is_same_link link other_link)

abbrev pub link_id : Option Linked → Option (List ℕ)
link_id None = None
link_id (Some l) = Some l.link

abbrev pub linked_text : Bool → List ℕ
linked_text true = codes " are linked"
linked_text false = codes " are not linked"

abbrev pub entries_linked : ParticipantFile → OrderEntry → OrderEntry → Bool
entries_linked file one other = are_linked file one.to (link_id one.entered.link) other.to (link_id other.entered.link)

abbrev pub linked_line : ParticipantFile → Both → List ℕ
linked_line file b = codes "O" ++ (decimal b.resting.entered.order ++ (codes " and O" ++ (decimal b.entering.entered.order ++ (linked_text (entries_linked file b.resting b.entering) ++ row_text b.row))))

abbrev pub stood_side : Side → List ℕ
stood_side Buy = codes " with a bid of "
stood_side Sell = codes " with an offer of "

-- the trade that filled an order
abbrev pub filled_text : Option ℕ → List ℕ
filled_text None = []
filled_text (Some trade) = codes ", filled by T" ++ decimal trade

-- the trade at the same row that filled an order which rested before
abbrev pub filler_of : List EvidenceEvent → ℕ → ℕ → Option ℕ
filler_of words order row = trade_of (find (is_sought (FillAt order row)) words)

abbrev pub stood_line : List EvidenceEvent → EvidenceEvent → RestedBefore → List ℕ
stood_line words w x = codes "O" ++ (decimal x.order ++ (codes " rested before O" ++ (decimal x.resting ++ (stood_side x.side ++ (decimal x.left ++ (codes " @ " ++ (price_text x.price ++ (filled_text (filler_of words x.order w.row) ++ row_text w.row))))))))

abbrev pub counted_line : EvidenceEvent → RestedCount → List ℕ
counted_line w x = codes "orders that rested on its side before O" ++ (decimal x.resting ++ (codes ": " ++ (decimal x.count ++ row_text w.row)))

abbrev pub standing_said : List EvidenceEvent → EvidenceEvent → EventKind → List ℕ
standing_said words w (said.RestedBefore x) = stood_line words w x
standing_said words w (said.RestedCount x) = counted_line w x
standing_said words w _ = []

-- the line of an event about what rested before the filled order
abbrev pub standing_line : List EvidenceEvent → EvidenceEvent → List ℕ
standing_line words w = standing_said words w w.said

-- what rested before it, best first, each with the trade that filled it at the same row, and then the count
abbrev pub standing_lines : List EvidenceEvent → List EvidenceEvent → List ℕ
standing_lines words stood = flat_map (standing_line words) stood

abbrev pub sides_said : List TrailRow → ParticipantFile → Both → EvidenceEvent → EventKind → List ℕ
sides_said rs file b w (said.Held x) = codes "O" ++ (decimal b.resting.entered.order ++ (codes " and O" ++ (decimal b.entering.entered.order ++ (codes " are the two sides of cross " ++ (x.cross ++ sent_row rs file w.row)))))
sides_said rs file b w _ = []

-- both orders, by the event at which the second was held
abbrev pub sides_line : List TrailRow → ParticipantFile → Both → EvidenceEvent → List ℕ
sides_line rs file b w = sides_said rs file b w w.said

-- the first side of a cross entered at the row of its message, at which the second side was held
abbrev pub sides_of : List TrailRow → ParticipantFile → Both → Option EvidenceEvent → List ℕ
sides_of rs file b None = []
sides_of rs file b (Some hold) = if hold.row == b.resting.row then sides_line rs file b hold else []

-- the line of two orders that are the sides of one cross
abbrev pub sides_lines : List TrailRow → ParticipantFile → List EvidenceEvent → Both → List ℕ
sides_lines rs file words b = if b.entering.entered.at_tick then sides_of rs file b (find (is_sought (HeldSide b.entering.to b.entering.entered.id)) words) else []

-- of both orders together
unfoldable pub together_lines : List TrailRow → ParticipantFile → List EvidenceEvent → List EvidenceEvent → Both → List ℕ
together_lines rs file words stood b =
    standing_lines words stood ++ (pair_line file b.resting.to b.entering.to b.row ++ (sides_lines rs file words b ++ (linked_line file b ++ apart_line b.resting.moment b.entering.moment b.row)))

-- the resting order and the entering one
abbrev pub both_lines : List TrailRow → ParticipantFile → List EvidenceEvent → List EvidenceEvent → Both → List ℕ
both_lines rs file words stood b = entry_lines rs file words b.resting ++ (entry_lines rs file words b.entering ++ together_lines rs file words stood b)

abbrev pub two_orders : List TrailRow → ParticipantFile → List EvidenceEvent → List EvidenceEvent → Option OrderEntry → Option OrderEntry → ℕ → List ℕ
two_orders rs file words stood None entering row = []
two_orders rs file words stood (Some resting) None row = []
two_orders rs file words stood (Some resting) (Some entering) row = both_lines rs file words stood (record { resting = resting; entering = entering; row = row })

unfoldable pub orders_lines : List TrailRow → ParticipantFile → List EvidenceEvent → List EvidenceEvent → ℕ → ℕ → ℕ → List ℕ
orders_lines rs file words stood resting entering row = two_orders rs file words stood (entry_of words (find (is_sought (Order resting)) words)) (entry_of words (find (is_sought (Order entering)) words)) row

abbrev pub other_of : List TrailRow → ParticipantFile → List EvidenceEvent → List EvidenceEvent → ℕ → Option ℕ → ℕ → List ℕ
other_of rs file words stood entering None row = []
other_of rs file words stood entering (Some resting) row = orders_lines rs file words stood resting entering row

abbrev pub filled_of : List TrailRow → ParticipantFile → List EvidenceEvent → List EvidenceEvent → ℕ → Option ℕ → ℕ → List ℕ
filled_of rs file words stood trade None row = []
filled_of rs file words stood trade (Some entering) row = other_of rs file words stood entering (order_of (find (is_sought (OtherFill trade entering)) words)) row

-- of a fill the entering order's report comes first
abbrev pub book_lines : List TrailRow → ParticipantFile → List EvidenceEvent → List EvidenceEvent → ℕ → ℕ → List ℕ
book_lines rs file words stood trade row = filled_of rs file words stood trade (order_of (find (is_sought (Fill trade)) words)) row

-- The whole.

abbrev pub row_in : List EvidenceEvent → ℕ → Option ℕ → ℕ
row_in words trade None = row_of (find (is_sought (Fill trade)) words)
row_in words trade (Some room) = row_of (find (is_sought (Hit trade)) words)

-- the row at which a trade was made
abbrev pub trade_row : List EvidenceEvent → TradeFact → ℕ
trade_row words t = row_in words t.number t.room

abbrev pub lines_in : List TrailRow → ParticipantFile → List EvidenceEvent → List EvidenceEvent → ℕ → Option ℕ → ℕ → List ℕ
lines_in rs file words stood trade None row = book_lines rs file words stood trade row
lines_in rs file words stood trade (Some room) row = room_lines rs file words room

abbrev pub place_lines : List TrailRow → ParticipantFile → List EvidenceEvent → List EvidenceEvent → TradeFact → ℕ → List ℕ
place_lines rs file words stood t row = lines_in rs file words stood t.number t.room row

-- the delay of an instrument: how long before the trade a linked order has to have entered, at least
abbrev pub delay_line : List Instrument → TradeFact → ℕ → List ℕ
delay_line xs t row = codes "delay between linked orders of " ++ (symbol_of xs t.instrument ++ (codes ": " ++ (decimal (delay_of xs t.instrument) ++ (codes " ms" ++ row_text row))))

abbrev pub delay_in : List Instrument → TradeFact → ℕ → Option ℕ → List ℕ
delay_in xs t row None = delay_line xs t row
delay_in xs t row (Some room) = []

-- the delay, of a trade in the book
abbrev pub delay_lines : List Instrument → TradeFact → ℕ → List ℕ
delay_lines xs t row = delay_in xs t row t.room

-- the trade, with the moment at which it was made
abbrev pub trade_line : Market → List TrailRow → TradeFact → ℕ → List ℕ
trade_line m rs t row = codes "trade T" ++ (decimal t.number ++ (codes " " ++ (deal m t ++ (moment_text rs row ++ row_text row))))

-- the delay between linked orders, of a trade in the book, and then the trade
abbrev pub last_lines : Market → List TrailRow → TradeFact → ℕ → List ℕ
last_lines m rs t row = delay_lines m.instruments t row ++ trade_line m rs t row

-- the lines about a trade's request or orders, with what rested before the filled one; those about what had become of
-- the quotes; and then the last ones
unfoldable pub evidence : Market → List TrailRow → List EvidenceEvent → List EvidenceEvent → List ℕ → TradeFact → List ℕ
evidence m rs words stood noted t = place_lines rs m.participants words stood t (trade_row words t) ++ (noted ++ last_lines m rs t (trade_row words t))
