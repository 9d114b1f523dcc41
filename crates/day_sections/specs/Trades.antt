-- The section of the trades: up to 500 in one table; above, by the hour (UTC), a fold each. The first 10,000 have their
-- part; an hour without any of these is a line.
use Rattle.std.specs.Prelude.{ℕ, Bool, true, false, List, [], ◌∷◌, length, decimal, map, nat_le, slice_get, take, Option, Some, None, ◌-◌, ◌==◌, if◌then◌else◌}
use Rattle.std.specs.List.{flat_map}
use Rattle.instruments.specs.declared.instruments.Instrument.{Instrument}
use Rattle.instruments.specs.Listing.{symbol_of, tick_of}
use Rattle.page_text.specs.Parts.{Part}
use Rattle.participants.specs.ParticipantFile.{ParticipantFile}
use Rattle.participants.specs.Relations.{name_of}
use Rattle.sef_moment.specs.Utc.{utc_text}
use Rattle.venue_rules.specs.declared.trail.TradeFact.{TradeFact}
use Rattle.day_events.specs.declared.event.Event.{Event}
use Rattle.day_tables.specs.Parts.{framed, plain_part}
use Rattle.day_tables.specs.Values.{clock_text, grouped, price_in}
use Rattle.day_sections.specs.declared.template.TheConstants.{CELL_END, DEAL, FOLD_END, HELD_SIDE, HOUR, HOUR_END_MORE, HOUR_LINE, IN_BOOK, IN_ROOM, LINKED_ORDERS, LIST_END, NO_ROW, NO_TRADE, TABLE_OF_TRADES, TRADE, TRADES, TRADES_END, UNLINKED}
use Rattle.day_tables.specs.declared.bulletin.Place.TheVariants.{Anywhere}
use Rattle.day_tables.specs.Bulletin.{quantity}
use Rattle.day_sections.specs.declared.folds.Fold.{Fold}
use Rattle.day_sections.specs.declared.flags.Flag.{Flag}
use Rattle.day_sections.specs.declared.flags.Flag.TheVariants as flag
use Rattle.day_sections.specs.declared.trades.Reported.{Reported}
use Rattle.day_sections.specs.Folds.{folds, hour_of, within}
use Rattle.day_sections.specs.Flags.{flag_at}
use Rattle.day_sections.specs.Reports.{report_of}
use Rattle.day_sections.specs.Values.{most_trades, row_part}

-- what the trades of a day are printed from
pub record Sheet : Type 0 where
  pub participants : ParticipantFile
  pub instruments : List Instrument
  pub reports : List Event
  pub flags : List Flag
  pub shown : Bool
  pub dated : Bool

abbrev pub sheet_of : Reported → Sheet
sheet_of r = record { participants = r.participants.now; instruments = r.instruments.now; reports = r.reports.now; flags = r.flags.now; shown = r.shown; dated = r.dated }

-- the time of what is reported, with its date in a trail of several dates

abbrev pub time_text : Bool → Option Event → List ℕ
time_text dated None = []
time_text dated (Some e) = clock_text dated (utc_text e.at.moment)

abbrev pub head_part : Sheet → TradeFact → Option Event → Part
head_part s t report = record { template = TRADE.now; values = decimal t.number ∷ decimal t.number ∷ time_text s.dated report ∷ decimal t.instrument ∷ symbol_of s.instruments t.instrument ∷ [] }

-- where it was made: in the book, or in a request for quotes

abbrev pub room_part : ℕ → Part
room_part room = record { template = IN_ROOM.now; values = decimal room ∷ decimal room ∷ [] }

abbrev pub place_part : Option ℕ → Part
place_part None = plain_part IN_BOOK.now
place_part (Some room) = room_part room

-- whether its orders are linked: a link to its line among the trades of these

abbrev pub linked_part : List ℕ → ℕ → Part
linked_part template n = record { template = template; values = decimal n ∷ [] }

abbrev pub flag_part : Flag → ℕ → Part
flag_part flag.Unlinked n = plain_part UNLINKED.now
flag_part flag.Linked n = linked_part LINKED_ORDERS.now n
flag_part flag.Held n = linked_part HELD_SIDE.now n

-- its price has the decimals of its instrument's tick
abbrev pub deal_part : Sheet → TradeFact → Part
deal_part s t = record { template = DEAL.now; values = grouped t.quantity ∷ price_in (tick_of s.instruments t.instrument) t.price ∷ name_of s.participants t.buyer ∷ name_of s.participants t.seller ∷ [] }

-- the row at which it was reported

abbrev pub row_of_part : Bool → Option Event → Part
row_of_part shown None = plain_part NO_ROW.now
row_of_part shown (Some e) = row_part shown e.at.row

abbrev pub trade_by : Sheet → TradeFact → Option Event → List Part
trade_by s t report = head_part s t report ∷ place_part t.room ∷ flag_part (flag_at s.flags t.number) t.number ∷ deal_part s t ∷ row_of_part s.shown report ∷ plain_part CELL_END.now ∷ []

abbrev pub trade_parts : Sheet → TradeFact → List Part
trade_parts s t = trade_by s t (report_of s.reports t.number)

-- a table of some trades
abbrev pub table_parts : Sheet → List TradeFact → List Part
table_parts s ts = framed (plain_part TABLE_OF_TRADES.now) (flat_map (trade_parts s) ts) (plain_part LIST_END.now)

-- By the hour.

-- the hour of what is reported
abbrev pub hour_at : Option Event → ℕ
hour_at None = 0
hour_at (Some e) = hour_of e.at.moment

abbrev pub hours : List Event → List TradeFact → List ℕ
hours rs ts = map (λ t. hour_at (report_of rs t.number)) ts

-- its date and hour, as 20250303-14
abbrev pub hour_text : Option Event → List ℕ
hour_text None = []
hour_text (Some e) = take 11 (utc_text e.at.moment)

abbrev pub number_of : Option TradeFact → List ℕ
number_of None = []
number_of (Some t) = decimal t.number

abbrev pub first_of : List TradeFact → Option TradeFact
first_of ts = slice_get ts 0

abbrev pub last_of : List TradeFact → Option TradeFact
last_of ts = slice_get ts (length ts - 1)

abbrev pub first_report : List Event → Option TradeFact → Option Event
first_report rs None = None
first_report rs (Some t) = report_of rs t.number

-- the hour of some trades; how many they are, the first and the last of them, and their quantity
abbrev pub hour_part : List ℕ → List Event → List TradeFact → Part
hour_part template rs ts = record {
  template = template;
  values = hour_text (first_report rs (first_of ts)) ∷ grouped (length ts) ∷ number_of (first_of ts) ∷ number_of (last_of ts) ∷ grouped (quantity None Anywhere ts) ∷ [];
}

-- the end of its fold: whether all of its trades are there, or how many

abbrev pub more_part : ℕ → Part
more_part listed = record { template = HOUR_END_MORE.now; values = grouped listed ∷ [] }

abbrev pub end_by : Bool → ℕ → Part
end_by true listed = plain_part FOLD_END.now
end_by false listed = more_part listed

abbrev pub end_part : ℕ → ℕ → Part
end_part all listed = end_by (all == listed) listed

-- all trades of an hour, and those of them that have their part

abbrev pub some_of_hour : Sheet → List TradeFact → List TradeFact → List Part
some_of_hour s all listed = framed (hour_part HOUR.now s.reports all) (table_parts s listed) (end_part (length all) (length listed))

abbrev pub hour_parts : Sheet → List TradeFact → List TradeFact → List Part
hour_parts s all listed = if length listed == 0 then hour_part HOUR_LINE.now s.reports all ∷ [] else some_of_hour s all listed

abbrev pub fold_parts : Sheet → List TradeFact → List TradeFact → Fold → List Part
fold_parts s all listed f = hour_parts s (within f all) (within f listed)

abbrev pub by_hour : Sheet → List TradeFact → List Part
by_hour s ts = flat_map (fold_parts s ts (take most_trades ts)) (folds (hours s.reports ts))

-- The section.

abbrev pub count_part : List TradeFact → Part
count_part ts = record { template = TRADES.now; values = grouped (length ts) ∷ [] }

abbrev pub listed_parts : Sheet → List TradeFact → List Part
listed_parts s ts = if nat_le (length ts) 500 then table_parts s ts else by_hour s ts

abbrev pub some_trades : Sheet → List TradeFact → List Part
some_trades s ts = framed (count_part ts) (listed_parts s ts) (plain_part TRADES_END.now)

abbrev pub trades_parts : Sheet → List TradeFact → List Part
trades_parts s ts = if length ts == 0 then plain_part NO_TRADE.now ∷ [] else some_trades s ts
