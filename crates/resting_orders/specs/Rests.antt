-- What rests, is held, is open or is quoted in the venue after the rows of a day, participant by participant.
--
--   As lines:
--       after row 13 at 20250303-14:30:41.000
--       ALPHA: 1 order rests, 1 side is held, 1 request is open, 0 quotes are live
--         IRS5Y bid O1 as a1 @ 2.5: 60 left of 100, 40 filled, entered 20250303-14:30:00.000 (row 1)
--         BASIS1Y offer of cross x1 as h2: 50 @ 0.25, held until 20250303-14:30:45.000
--         IRS5Y request R3 as q1: buy 100, open until 20250303-14:30:50.000
--       BETA: 0 orders rest, 0 sides are held, 0 requests are open, 1 quote is live
--         IRS5Y quote Q3 as e1 in R3: 100, offer 2.5025, live until 20250303-14:30:50.000
--       GAMMA: no order rests, no side is held, no request is open, no quote is live
--   As a table for a spreadsheet (RFC 4180):
--       participant,row,moment_utc,kind,number,identifier,instrument,side,left,quantity,filled,price,cross,entered_utc,
--       entered_row,until_utc,request,bid,offer (in one line)
--       ALPHA,13,20250303-14:30:41.000,order,O1,a1,IRS5Y,bid,60,100,40,2.5,,20250303-14:30:00.000,1,,,,
--       ALPHA,13,20250303-14:30:41.000,held,,h2,BASIS1Y,offer,,50,,0.25,x1,,,20250303-14:30:45.000,,,
--       ALPHA,13,20250303-14:30:41.000,request,R3,q1,IRS5Y,buy,,100,,,,,,20250303-14:30:50.000,,,
--       BETA,13,20250303-14:30:41.000,quote,Q3,e1,IRS5Y,,,100,,,,,,20250303-14:30:50.000,R3,,2.5025
use Rattle.std.specs.Prelude.{◌≡◌, ℕ, ℤ, zero, suc, ◌==◌, ◌&&◌, Bool, nat_le, List, [], ◌∷◌, ◌++◌, filter, length, Option, Some, None, codes, decimal, if◌then◌else◌}
use Rattle.std.specs.List.{flat_map}
use Rattle.std.specs.Io.KnownBytes.{Appends}
use Rattle.csv.specs.Writing.{row_text}
use Rattle.sef_moment.specs.Utc.{greatest, utc_text}
use Rattle.fix_fields.specs.Forms.{price_text}
use Rattle.fix_dictionary.specs.Text.{given}
use Rattle.fix_dictionary.specs.declared.values.Side.{Side}
use Rattle.fix_dictionary.specs.declared.values.Side.TheVariants.{Buy, Sell}
use Rattle.participants.specs.ParticipantFile.{ParticipantFile}
use Rattle.participants.specs.Relations.{name_of}
use Rattle.instruments.specs.declared.instruments.Instrument.{Instrument}
use Rattle.instruments.specs.Listing.{symbol_of}
use Rattle.venue_rules.specs.declared.facts.HeldSide.{HeldSide}
use Rattle.venue_rules.specs.declared.trail.TrailRow.{TrailRow}
use Rattle.venue_rules.specs.Delay.{held}
use Rattle.venue_rules.specs.Market.{Market}
use Rattle.venue_rules.specs.Run.{Input, run}
use Rattle.message_words.specs.Cells.{setup}
use Rattle.message_words.specs.Parts.{Part, parts_text, words_alone}
use Rattle.row_replay.specs.Inputs.{AreOf}
use Rattle.resting_orders.specs.declared.form.Form.{Form}
use Rattle.resting_orders.specs.declared.form.Form.TheVariants.{Lines, Table}
use Rattle.resting_orders.specs.declared.rested.RestedOrder.{RestedOrder}
use Rattle.resting_orders.specs.declared.asking.Request.{Request}
use Rattle.resting_orders.specs.declared.quoting.OwnQuote.{OwnQuote}
use Rattle.resting_orders.specs.declared.rests_text.Counts.{Counts}
use Rattle.resting_orders.specs.declared.rests_text.DayEnd.{DayEnd}
use Rattle.resting_orders.specs.Asking.{open_requests}
use Rattle.resting_orders.specs.Book.{last_moment, quoted_side, shown_moment}
use Rattle.resting_orders.specs.Noting.{entered_on}
use Rattle.resting_orders.specs.Quoting.{live_at, quoted_on}
use Rattle.resting_orders.specs.Resting.{books_of}

-- What is printed.

-- all that rests, in the order of the books, all that is held, in order of arrival, every request that is open, and
-- every quote that is live
pub record Rests : Type 0 where
  pub orders : List RestedOrder
  pub held : List HeldSide
  pub requests : List Request
  pub quotes : List OwnQuote

abbrev pub is_order_of : ℕ → RestedOrder → Bool
is_order_of who o = o.owner == who

abbrev pub is_side_of : ℕ → HeldSide → Bool
is_side_of who k = k.order.who == who

abbrev pub is_request_of : ℕ → Request → Bool
is_request_of who q = q.requester == who

abbrev pub is_quote_of : ℕ → OwnQuote → Bool
is_quote_of who q = q.maker == who

-- what a participant has of it
abbrev pub rests_of : ℕ → Rests → Rests
rests_of who r = record { orders = filter (is_order_of who) r.orders; held = filter (is_side_of who) r.held; requests = filter (is_request_of who) r.requests; quotes = filter (is_quote_of who) r.quotes }

-- the due moment of a held side; none where no moment is so late, so that it never enters
abbrev pub due_moment : ℕ → Option ℕ
due_moment due = if nat_le due greatest then Some due else None

-- As lines.

abbrev pub end_parts : DayEnd → List Part
end_parts d = (codes "after row ", Some (decimal d.row)) ∷ (codes " at ", given utc_text d.moment) ∷ words_alone (codes "\n") ∷ []

abbrev pub orders_words : ℕ → List ℕ
orders_words n = if n == 1 then codes " order rests" else codes " orders rest"

abbrev pub sides_words : ℕ → List ℕ
sides_words n = if n == 1 then codes " side is held" else codes " sides are held"

abbrev pub requests_words : ℕ → List ℕ
requests_words n = if n == 1 then codes " request is open" else codes " requests are open"

abbrev pub quotes_words : ℕ → List ℕ
quotes_words n = if n == 1 then codes " quote is live" else codes " quotes are live"

abbrev pub counted_parts : List ℕ → Counts → List Part
counted_parts name n = (name, Some []) ∷ (codes ": ", Some (decimal n.orders)) ∷ words_alone (orders_words n.orders) ∷ (codes ", ", Some (decimal n.sides)) ∷ words_alone (sides_words n.sides) ∷ (codes ", ", Some (decimal n.requests)) ∷ words_alone (requests_words n.requests) ∷ (codes ", ", Some (decimal n.quotes)) ∷ words_alone (quotes_words n.quotes) ∷ words_alone (codes "\n") ∷ []

abbrev pub nothing_parts : List ℕ → List Part
nothing_parts name = (name, Some []) ∷ words_alone (codes ": no order rests, no side is held, no request is open, no quote is live\n") ∷ []

abbrev pub heading_parts : List ℕ → Counts → List Part
heading_parts name n = if n.orders == 0 && (n.sides == 0 && (n.requests == 0 && n.quotes == 0)) then nothing_parts name else counted_parts name n

abbrev pub order_parts : RestedOrder → List Part
order_parts o =
    (codes "  ", Some o.symbol)
    ∷ (codes " ", Some (quoted_side o.side))
    ∷ (codes " O", Some (decimal o.number))
    ∷ (codes " as ", Some o.id)
    ∷ (codes " @ ", Some (price_text o.price))
    ∷ (codes ": ", Some (decimal o.left))
    ∷ (codes " left of ", Some (decimal o.quantity))
    ∷ (codes ", ", Some (decimal o.filled))
    ∷ (codes " filled, entered ", Some (utc_text o.at.moment))
    ∷ (codes " (row ", Some (decimal o.at.row))
    ∷ words_alone (codes ")\n")
    ∷ []

abbrev pub due_words : Option ℕ → List ℕ
due_words None = codes ", never due"
due_words (Some t) = codes ", held until "

abbrev pub side_parts : List Instrument → HeldSide → List Part
side_parts xs k =
    (codes "  ", Some (symbol_of xs k.order.instrument))
    ∷ (codes " ", Some (quoted_side k.order.side))
    ∷ (codes " of cross ", Some k.cross)
    ∷ (codes " as ", Some k.order.id)
    ∷ (codes ": ", Some (decimal k.order.quantity))
    ∷ (codes " @ ", Some (price_text k.order.price))
    ∷ []

abbrev pub due_parts : Option ℕ → List Part
due_parts due = (due_words due, Some (shown_moment due)) ∷ words_alone (codes "\n") ∷ []

abbrev pub asked_words : Option Side → List ℕ
asked_words None = codes "buy or sell"
asked_words (Some Buy) = codes "buy"
asked_words (Some Sell) = codes "sell"

abbrev pub request_words : List ℕ → Request → List Part
request_words symbol q =
    (codes "  ", Some symbol)
    ∷ (codes " request R", Some (decimal q.number))
    ∷ (codes " as ", Some q.id)
    ∷ (codes ": ", Some (asked_words q.side))
    ∷ (codes " ", Some (decimal q.quantity))
    ∷ (codes ", open until ", Some (utc_text q.end))
    ∷ words_alone (codes "\n")
    ∷ []

abbrev pub request_parts : List Instrument → Request → List Part
request_parts xs q = request_words (symbol_of xs q.instrument) q

abbrev pub quote_parts : OwnQuote → List Part
quote_parts q =
    (codes "  ", Some q.symbol)
    ∷ (codes " quote Q", Some (decimal q.number))
    ∷ (codes " as ", Some q.id)
    ∷ (codes " in ", Some q.request)
    ∷ (codes ": ", Some (decimal q.quantity))
    ∷ (codes ", bid ", given price_text q.bid)
    ∷ (codes ", offer ", given price_text q.offer)
    ∷ (codes ", live until ", Some (utc_text q.end))
    ∷ words_alone (codes "\n")
    ∷ []

-- As a table.

abbrev pub rests_names : List (List ℕ)
rests_names =
    codes "participant"
    ∷ codes "row"
    ∷ codes "moment_utc"
    ∷ codes "kind"
    ∷ codes "number"
    ∷ codes "identifier"
    ∷ codes "instrument"
    ∷ codes "side"
    ∷ codes "left"
    ∷ codes "quantity"
    ∷ codes "filled"
    ∷ codes "price"
    ∷ codes "cross"
    ∷ codes "entered_utc"
    ∷ codes "entered_row"
    ∷ codes "until_utc"
    ∷ codes "request"
    ∷ codes "bid"
    ∷ codes "offer"
    ∷ []

-- the first fields of each row: whose it is, after which row, and its kind
abbrev pub first_fields : ParticipantFile → DayEnd → ℕ → List ℕ → List (List ℕ)
first_fields file d who kind = name_of file who ∷ decimal d.row ∷ shown_moment d.moment ∷ kind ∷ []

abbrev pub order_fields : ParticipantFile → DayEnd → ℕ → RestedOrder → List (List ℕ)
order_fields file d who o =
    first_fields file d who (codes "order")
    ++ (codes "O" ++ decimal o.number) ∷ o.id ∷ o.symbol ∷ quoted_side o.side ∷ decimal o.left ∷ decimal o.quantity ∷ decimal o.filled ∷ price_text o.price ∷ [] ∷ utc_text o.at.moment ∷ decimal o.at.row ∷ [] ∷ [] ∷ [] ∷ [] ∷ []

abbrev pub side_fields : ParticipantFile → List Instrument → DayEnd → ℕ → HeldSide → List (List ℕ)
side_fields file xs d who k =
    first_fields file d who (codes "held")
    ++ [] ∷ k.order.id ∷ symbol_of xs k.order.instrument ∷ quoted_side k.order.side ∷ [] ∷ decimal k.order.quantity ∷ [] ∷ price_text k.order.price ∷ k.cross ∷ [] ∷ [] ∷ shown_moment (due_moment k.due) ∷ [] ∷ [] ∷ [] ∷ []

abbrev pub request_fields : ParticipantFile → List Instrument → DayEnd → ℕ → Request → List (List ℕ)
request_fields file xs d who q =
    first_fields file d who (codes "request") ++ (codes "R" ++ decimal q.number) ∷ q.id ∷ symbol_of xs q.instrument ∷ asked_words q.side ∷ [] ∷ decimal q.quantity ∷ [] ∷ [] ∷ [] ∷ [] ∷ [] ∷ utc_text q.end ∷ [] ∷ [] ∷ [] ∷ []

abbrev pub shown_price : Option ℤ → List ℕ
shown_price None = []
shown_price (Some p) = price_text p

abbrev pub quote_fields : ParticipantFile → DayEnd → ℕ → OwnQuote → List (List ℕ)
quote_fields file d who q =
    first_fields file d who (codes "quote")
    ++ (codes "Q" ++ decimal q.number) ∷ q.id ∷ q.symbol ∷ [] ∷ [] ∷ decimal q.quantity ∷ [] ∷ [] ∷ [] ∷ [] ∷ [] ∷ utc_text q.end ∷ q.request ∷ shown_price q.bid ∷ shown_price q.offer ∷ []

-- In the form that is asked for.

abbrev pub rests_head : Form → DayEnd → List ℕ
rests_head Lines d = parts_text (end_parts d)
rests_head Table d = row_text setup rests_names

abbrev pub owner_heading : Form → List ℕ → Counts → List ℕ
owner_heading Lines name n = parts_text (heading_parts name n)
owner_heading Table name n = []

abbrev pub order_text : Form → ParticipantFile → DayEnd → ℕ → RestedOrder → List ℕ
order_text Lines file d who o = parts_text (order_parts o)
order_text Table file d who o = row_text setup (order_fields file d who o)

abbrev pub side_text : Form → ParticipantFile → List Instrument → DayEnd → ℕ → HeldSide → List ℕ
side_text Lines file xs d who k = parts_text (side_parts xs k) ++ parts_text (due_parts (due_moment k.due))
side_text Table file xs d who k = row_text setup (side_fields file xs d who k)

abbrev pub request_text : Form → ParticipantFile → List Instrument → DayEnd → ℕ → Request → List ℕ
request_text Lines file xs d who q = parts_text (request_parts xs q)
request_text Table file xs d who q = row_text setup (request_fields file xs d who q)

abbrev pub quote_text : Form → ParticipantFile → DayEnd → ℕ → OwnQuote → List ℕ
quote_text Lines file d who q = parts_text (quote_parts q)
quote_text Table file d who q = row_text setup (quote_fields file d who q)

abbrev pub counts_of : Rests → Counts
counts_of r = record { orders = length r.orders; sides = length r.held; requests = length r.requests; quotes = length r.quotes }

abbrev pub owned_text : Form → ParticipantFile → List Instrument → DayEnd → ℕ → Rests → List ℕ
owned_text form file xs d who r =
    owner_heading form (name_of file who) (counts_of r)
    ++ (flat_map (order_text form file d who) r.orders ++ (flat_map (side_text form file xs d who) r.held ++ (flat_map (request_text form file xs d who) r.requests ++ flat_map (quote_text form file d who) r.quotes)))

-- of one participant
abbrev pub participant_text : Form → ParticipantFile → List Instrument → DayEnd → Rests → ℕ → List ℕ
participant_text form file xs d r who = owned_text form file xs d who (rests_of who r)

-- of the first n participants, in the order of the file
abbrev pub participants_text : Form → ParticipantFile → List Instrument → DayEnd → Rests → ℕ → List ℕ
participants_text form file xs d r zero = []
participants_text form file xs d r (suc n) = participants_text form file xs d r n ++ participant_text form file xs d r n

-- of one participant, or of all
abbrev pub wanted_text : Form → ParticipantFile → List Instrument → DayEnd → Rests → Option ℕ → List ℕ
wanted_text form file xs d r None = participants_text form file xs d r (length file.names)
wanted_text form file xs d r (Some who) = participant_text form file xs d r who

abbrev pub rests_text : Form → ParticipantFile → List Instrument → DayEnd → Rests → Option ℕ → List ℕ
rests_text form file xs d r who = rests_head form d ++ wanted_text form file xs d r who

-- What there is.

abbrev pub end_of : List TrailRow → DayEnd
end_of rs = record { row = length rs; moment = last_moment rs }

-- after the inputs of rows, as the rules have them: every resting order of every instrument, every held side, every
-- request that is open at the moment of the last row, and every quote that is live then (`is_live`), as it was sent
abbrev pub rests_after : Market → List TrailRow → List Input → Rests
rests_after m rs is =
    let facts = (run m is).history.facts in
    record { orders = books_of (entered_on m rs is) facts m.instruments m.instruments; held = held facts; requests = open_requests facts (last_moment rs); quotes = live_at facts (last_moment rs) (quoted_on m is) }

-- a text has what rests, is held, is open or is live after the inputs of these rows
pub record IsRests (form : Form) (m : Market) (rs : List TrailRow) (who : Option ℕ) (text : List ℕ) : Type 0 where
  pub items : List Input
  pub emitted : AreOf rs items
  pub is : text ≡ rests_text form m.participants m.instruments (end_of rs) (rests_after m rs items) who

-- What was written is what rests, is held, is open or is live after the inputs of these rows: of one participant, or of
-- all, every resting order, every held side, every open request and every live quote by the facts, and no other byte.
pub record EmitsRests (form : Form) (m : Market) (rs : List TrailRow) (who : Option ℕ) (before after : Option (List ℕ)) : Type 0 where
  pub items : List Input
  pub emitted : AreOf rs items
  pub written : Appends before after (rests_text form m.participants m.instruments (end_of rs) (rests_after m rs items) who)
