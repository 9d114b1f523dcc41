-- The section of the crosses: up to 200 in one table; above, in folds of 200, up to 10,000.
use Rattle.std.specs.Prelude.{ℕ, ◌-◌, ◌==◌, ℤ, Bool, true, false, List, [], ◌∷◌, ◌++◌, length, nat_le, take, decimal, codes, Option, Some, None, if◌then◌else◌}
use Rattle.std.specs.List.{flat_map}
use Rattle.fix_dictionary.specs.declared.values.Side.{Side}
use Rattle.fix_dictionary.specs.declared.values.Side.TheVariants.{Buy, Sell}
use Rattle.instruments.specs.declared.instruments.Instrument.{Instrument}
use Rattle.instruments.specs.Listing.{instrument_of, tick_of}
use Rattle.page_text.specs.Parts.{Part}
use Rattle.participants.specs.ParticipantFile.{ParticipantFile}
use Rattle.participants.specs.Relations.{name_of}
use Rattle.sef_moment.specs.Utc.{utc_text}
use Rattle.venue_rules.specs.Market.{Market}
use Rattle.day_tables.specs.Parts.{framed, plain_part}
use Rattle.day_tables.specs.Values.{clock_text, grouped, price_in}
use Rattle.day_sections.specs.Folds.{most_folded, whole_or_folded}
use Rattle.day_sections.specs.Values.{is_listed, or_empty, row_part}
use Rattle.cross_sections.specs.declared.crossed.Arrival.{Arrival}
use Rattle.cross_sections.specs.declared.crossed.Crossed.{Crossed}
use Rattle.cross_sections.specs.declared.crossed.End.{End}
use Rattle.cross_sections.specs.declared.crossed.End.TheVariants as ends
use Rattle.cross_sections.specs.declared.section.Form.{Form}
use Rattle.cross_sections.specs.declared.template.TheConstants.{BUY_FIRST, CANCELLED, CELL_END, CROSS, CROSSES, ENTERED, HELD, ITS_ROWS, LIST_END, MET_ALONE, MET_LINK, MET_NONE, MET_OTHERS, MORE_CROSSES, NO_CROSS, NOTHING, REFUSED, SECTION_END, SELL_FIRST, TABLE_OF_CROSSES}

-- how crosses are printed: the files; whether the rows are on the page; whether times have their date
pub record Setting : Type 0 where
  pub market : Market
  pub shown : Bool
  pub dated : Bool

abbrev pub setting_of : Form → Setting
setting_of f = record { market = record { participants = f.participants.now; instruments = f.instruments.now }; shown = f.shown; dated = f.dated }

abbrev pub number_of : Option ℕ → List ℕ
number_of None = []
number_of (Some n) = decimal n

-- a price with the decimals of its instrument's tick
abbrev pub price_of : List Instrument → List ℕ → Option ℤ → List ℕ
price_of xs symbol None = []
price_of xs symbol (Some p) = price_in (tick_of xs (instrument_of xs symbol)) p

abbrev pub time_of : Bool → ℕ → List ℕ
time_of dated moment = clock_text dated (utc_text moment)

abbrev pub cross_part : Market → Crossed → Part
cross_part m c = record {
  template = CROSS.now;
  values = decimal c.row ∷ c.terms.cross ∷ name_of m.participants c.who ∷ c.first.symbol ∷ grouped c.first.left ∷ price_of m.instruments c.first.symbol c.terms.price ∷ [];
}

-- both sides, the first with the order that it entered as, and until when the other was held

abbrev pub sides_template : Side → List ℕ
sides_template Buy = BUY_FIRST.now
sides_template Sell = SELL_FIRST.now

abbrev pub sides_part : Bool → Crossed → Part
sides_part dated c = record {
  template = sides_template c.first.side;
  values = number_of c.first.order ∷ c.first.id ∷ time_of dated c.moment ∷ c.terms.second ∷ time_of dated c.due ∷ [];
}

-- what became of the held side

abbrev pub entered_part : Option ℕ → Part
entered_part order = record { template = ENTERED.now; values = number_of order ∷ [] }

-- the trade with its first side: a link, if it is on the page
abbrev pub met_link : ℕ → Part
met_link n = record { template = MET_LINK.now; values = decimal n ∷ decimal n ∷ [] }

abbrev pub met_alone : ℕ → Part
met_alone n = record { template = MET_ALONE.now; values = decimal n ∷ [] }

abbrev pub met_part : Option ℕ → Part
met_part None = plain_part NOTHING.now
met_part (Some n) = if is_listed n then met_link n else met_alone n

-- trades with others, or none at all
abbrev pub others_part : Bool → Option ℕ → Part
others_part true trade = plain_part MET_OTHERS.now
others_part false (Some n) = plain_part NOTHING.now
others_part false None = plain_part MET_NONE.now

abbrev pub arrival_parts : Arrival → List Part
arrival_parts a = entered_part a.order ∷ met_part a.trade ∷ others_part a.others a.trade ∷ []

abbrev pub refused_part : Option (List ℕ) → Part
refused_part cause = record { template = REFUSED.now; values = or_empty cause ∷ [] }

abbrev pub end_parts : End → List Part
end_parts ends.Held = plain_part HELD.now ∷ []
end_parts (ends.Entered a) = arrival_parts a
end_parts (ends.Cancelled row) = plain_part CANCELLED.now ∷ []
end_parts (ends.Refused r) = refused_part r.cause ∷ []

-- and at which row
abbrev pub end_row : Bool → End → List Part
end_row shown ends.Held = []
end_row shown (ends.Entered a) = row_part shown a.row ∷ []
end_row shown (ends.Cancelled row) = row_part shown row ∷ []
end_row shown (ends.Refused r) = row_part shown r.row ∷ []

-- a cross
abbrev pub line_parts : Setting → Crossed → List Part
line_parts f c =
    cross_part f.market c ∷ sides_part f.dated c ∷ (end_parts c.end ++ (plain_part ITS_ROWS.now ∷ row_part f.shown c.row ∷ (end_row f.shown c.end ++ plain_part CELL_END.now ∷ [])))

-- a table of some
abbrev pub table_parts : Setting → List Crossed → List Part
table_parts f cs = framed (plain_part TABLE_OF_CROSSES.now) (flat_map (line_parts f) cs) (plain_part LIST_END.now)

abbrev pub count_part : List Crossed → Part
count_part cs = record { template = CROSSES.now; values = grouped (length cs) ∷ [] }

-- the end of the section: whether all are there, or how many more there are
abbrev pub more_part : ℕ → Part
more_part more = record { template = MORE_CROSSES.now; values = grouped more ∷ [] }

abbrev pub end_part : ℕ → Part
end_part n = if nat_le n most_folded then plain_part SECTION_END.now else more_part (n - most_folded)

abbrev pub some_crosses : Setting → List Crossed → List Part
some_crosses f cs = framed (count_part cs) (whole_or_folded (table_parts f) (take most_folded cs)) (end_part (length cs))

abbrev pub crosses_parts : Setting → List Crossed → List Part
crosses_parts f cs = if length cs == 0 then plain_part NO_CROSS.now ∷ [] else some_crosses f cs
