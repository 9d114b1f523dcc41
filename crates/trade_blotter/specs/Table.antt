-- The table of trades for a spreadsheet: comma-separated values (RFC 4180), the names of the fields and then a row for
-- each trade.
use Rattle.std.specs.Prelude.{ℕ, List, [], ◌∷◌, ◌++◌, Option, Some, None, codes, decimal}
use Rattle.std.specs.List.{flat_map}
use Rattle.csv.specs.Writing.{default_writer, row_text, with_terminator}
use Rattle.csv.specs.declared.parser.Terminator.TheVariants.{CRLF}
use Rattle.csv.specs.declared.writer.WriterBuilder.{WriterBuilder}
use Rattle.fix_fields.specs.Forms.{price_text}
use Rattle.instruments.specs.Listing.{symbol_of}
use Rattle.participants.specs.ParticipantFile.{ParticipantFile}
use Rattle.participants.specs.Relations.{name_of}
use Rattle.venue_rules.specs.Facts.{History}
use Rattle.venue_rules.specs.Market.{Market}
use Rattle.venue_rules.specs.Readings.{trade_facts}
use Rattle.venue_rules.specs.declared.trail.RoomFact.{RoomFact}
use Rattle.venue_rules.specs.declared.trail.TradeFact.{TradeFact}
use Rattle.trade_blotter.specs.Line.{listed, room_emitted, shown_text}

-- commas between the fields, CR LF behind a row, and quotes around a field that holds a comma or a quote
abbrev pub setup : WriterBuilder
setup = with_terminator default_writer CRLF

abbrev pub field_names : List (List ℕ)
field_names = codes "trade" ∷ codes "kind" ∷ codes "instrument" ∷ codes "quantity" ∷ codes "price" ∷ codes "buyer" ∷ codes "seller"
    ∷ codes "room" ∷ codes "asked" ∷ codes "first" ∷ codes "shown" ∷ []

-- in the book or in a room
abbrev pub kind : Option ℕ → List ℕ
kind None = codes "book"
kind (Some room) = codes "rfq"

-- the trade's number, its kind, what was traded, and both parties
abbrev pub deal_fields : Market → TradeFact → List (List ℕ)
deal_fields m t = (codes "T" ++ decimal t.number) ∷ kind t.room ∷ symbol_of m.instruments t.instrument ∷ decimal t.quantity ∷ price_text t.price
    ∷ name_of m.participants t.buyer ∷ name_of m.participants t.seller ∷ []

-- the recipients, the first quote, and the orders shown with it; every room with a trade had a quote
abbrev pub room_fields : ParticipantFile → Option RoomFact → List (List ℕ)
room_fields file None = [] ∷ [] ∷ [] ∷ []
room_fields file (Some r) = listed (name_of file) r.asked ∷ (codes "Q" ++ decimal r.first) ∷ listed shown_text r.shown ∷ []

-- the room's number and what is read back of it; all four are empty in the book
abbrev pub place_fields : ParticipantFile → Option ℕ → Option RoomFact → List (List ℕ)
place_fields file None emitted = [] ∷ room_fields file None
place_fields file (Some room) emitted = (codes "R" ++ decimal room) ∷ room_fields file emitted

abbrev pub trade_fields : Market → TradeFact → Option RoomFact → List (List ℕ)
trade_fields m t emitted = deal_fields m t ++ place_fields m.participants t.room emitted

-- the row of a trade of a history
unfoldable pub trade_row : Market → History → TradeFact → List ℕ
trade_row m h t = row_text setup (trade_fields m t (room_emitted h t.room))

-- the rows of all its trades, in order
abbrev pub trade_rows : Market → History → List ℕ
trade_rows m h = flat_map (trade_row m h) (trade_facts h.facts)

-- the names, and then the rows
abbrev pub trade_table : Market → History → List ℕ
trade_table m h = row_text setup field_names ++ trade_rows m h
