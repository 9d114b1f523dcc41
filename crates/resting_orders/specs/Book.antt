-- The book of an instrument after the rows of a day: every order that rests, bids and then offers, each in price-time
-- priority (17 CFR 37.9(a)(3)), with its owner, the owner's identifier (11), and where it entered.
--
--   As lines:
--       book of IRS5Y after row 7 at 20250303-14:30:12.500, resting orders: 1
--       offer O2 of DELTA as d1 @ 2.5: 30 left of 70, 40 filled, entered 20250303-14:30:02.000 (row 4)
--   As a table for a spreadsheet (RFC 4180):
--       instrument,row,moment_utc,side,order,left,price,owner,identifier,quantity,filled,entered_utc,entered_row
--       IRS5Y,7,20250303-14:30:12.500,offer,O2,30,2.5,DELTA,d1,70,40,20250303-14:30:02.000,4
use Rattle.std.specs.Prelude.{◌≡◌, ℕ, ◌-◌, false, option_map, slice_get, List, [], ◌∷◌, ◌++◌, length, Option, Some, None, codes, decimal}
use Rattle.std.specs.List.{flat_map}
use Rattle.std.specs.Io.KnownBytes.{Appends}
use Rattle.csv.specs.Writing.{row_text}
use Rattle.sef_moment.specs.Utc.{utc_text}
use Rattle.fix_fields.specs.Forms.{price_text}
use Rattle.fix_dictionary.specs.Text.{given}
use Rattle.fix_dictionary.specs.declared.values.Side.{Side}
use Rattle.fix_dictionary.specs.declared.values.Side.TheVariants.{Buy, Sell}
use Rattle.participants.specs.ParticipantFile.{ParticipantFile}
use Rattle.participants.specs.Relations.{name_of}
use Rattle.instruments.specs.Listing.{instrument_of, is_unknown_instrument}
use Rattle.venue_rules.specs.declared.trail.TrailRow.{TrailRow}
use Rattle.venue_rules.specs.Market.{Market}
use Rattle.venue_rules.specs.Run.{Input, run}
use Rattle.resting_orders.specs.declared.book.Sheet.{Sheet}
use Rattle.resting_orders.specs.declared.form.Form.{Form}
use Rattle.resting_orders.specs.declared.form.Form.TheVariants.{Lines, Table}
use Rattle.message_words.specs.Cells.{setup}
use Rattle.message_words.specs.Parts.{Part, parts_text, words_alone}
use Rattle.row_replay.specs.Inputs.{AreOf}
use Rattle.resting_orders.specs.declared.rested.RestedOrder.{RestedOrder}
use Rattle.resting_orders.specs.Noting.{entered_on}
use Rattle.resting_orders.specs.Resting.{book_of}

abbrev pub quoted_side : Side → List ℕ
quoted_side Buy = codes "bid"
quoted_side Sell = codes "offer"

-- As lines.

abbrev pub book_parts : Sheet → ℕ → List Part
book_parts s count =
    (codes "book of ", Some s.symbol)
    ∷ (codes " after row ", Some (decimal s.row))
    ∷ (codes " at ", given utc_text s.moment)
    ∷ (codes ", resting orders: ", Some (decimal count))
    ∷ words_alone (codes "\n")
    ∷ []

abbrev pub rested_parts : ParticipantFile → RestedOrder → List Part
rested_parts file o =
    words_alone (quoted_side o.side)
    ∷ (codes " O", Some (decimal o.number))
    ∷ (codes " of ", Some (name_of file o.owner))
    ∷ (codes " as ", Some o.id)
    ∷ (codes " @ ", Some (price_text o.price))
    ∷ (codes ": ", Some (decimal o.left))
    ∷ (codes " left of ", Some (decimal o.quantity))
    ∷ (codes ", ", Some (decimal o.filled))
    ∷ (codes " filled, entered ", Some (utc_text o.at.moment))
    ∷ (codes " (row ", Some (decimal o.at.row))
    ∷ words_alone (codes ")\n")
    ∷ []

-- As a table.

abbrev pub book_names : List (List ℕ)
book_names = codes "instrument" ∷ codes "row" ∷ codes "moment_utc" ∷ codes "side" ∷ codes "order" ∷ codes "left" ∷ codes "price" ∷ codes "owner" ∷ codes "identifier" ∷ codes "quantity" ∷ codes "filled" ∷ codes "entered_utc" ∷ codes "entered_row" ∷ []

-- none before the first row
abbrev pub shown_moment : Option ℕ → List ℕ
shown_moment None = []
shown_moment (Some t) = utc_text t

abbrev pub rested_fields : ParticipantFile → Sheet → RestedOrder → List (List ℕ)
rested_fields file s o =
    s.symbol ∷ decimal s.row ∷ shown_moment s.moment ∷ quoted_side o.side ∷ (codes "O" ++ decimal o.number) ∷ decimal o.left ∷ price_text o.price ∷ name_of file o.owner ∷ o.id ∷ decimal o.quantity ∷ decimal o.filled ∷ utc_text o.at.moment ∷ decimal o.at.row ∷ []

-- In the form that is asked for.

abbrev pub heading : Form → Sheet → ℕ → List ℕ
heading Lines s count = parts_text (book_parts s count)
heading Table s count = row_text setup book_names

abbrev pub rested_text : Form → ParticipantFile → Sheet → RestedOrder → List ℕ
rested_text Lines file s o = parts_text (rested_parts file o)
rested_text Table file s o = row_text setup (rested_fields file s o)

abbrev pub book_text : Form → ParticipantFile → Sheet → List RestedOrder → List ℕ
book_text form file s os = heading form s (length os) ++ flat_map (rested_text form file s) os

-- the moment of the last row
abbrev pub last_moment : List TrailRow → Option ℕ
last_moment rs = option_map (λ r. r.moment) (slice_get rs (length rs - 1))

abbrev pub sheet_of : List ℕ → List TrailRow → Sheet
sheet_of symbol rs = record { symbol = symbol; row = length rs; moment = last_moment rs }

-- a text is the book of a sheet's instrument after the inputs of these rows
pub record IsBook (form : Form) (m : Market) (rs : List TrailRow) (s : Sheet) (text : List ℕ) : Type 0 where
  pub items : List Input
  pub emitted : AreOf rs items
  pub known : is_unknown_instrument m.instruments s.symbol ≡ false
  pub is : text ≡ book_text form m.participants s (book_of (entered_on m rs items) s.symbol (run m items).history.facts (instrument_of m.instruments s.symbol))

-- What was written is the book of this instrument after the inputs of these rows: every resting order of it by the
-- facts, with its owner, the owner's identifier and where it entered, and no other byte.
pub record EmitsBook (form : Form) (m : Market) (rs : List TrailRow) (symbol : List ℕ) (before after : Option (List ℕ)) : Type 0 where
  pub items : List Input
  pub emitted : AreOf rs items
  pub known : is_unknown_instrument m.instruments symbol ≡ false
  pub written : Appends before after (book_text form m.participants (sheet_of symbol rs) (book_of (entered_on m rs items) symbol (run m items).history.facts (instrument_of m.instruments symbol)))
