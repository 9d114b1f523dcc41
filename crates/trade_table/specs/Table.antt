-- The table of trades with how each was made: behind the fields of the trade list those of its execution.
use Rattle.std.specs.Prelude.{◌⊎◌, ◌<◌, ℕ, Bool, true, false, List, [], ◌∷◌, ◌++◌, Option, Some, None, codes, decimal, length, take}
use Rattle.std.specs.List.{flat_map}
use Rattle.std.specs.Io.KnownBytes.{Appends, Keeps}
use Rattle.csv.specs.Writing.{row_text}
use Rattle.fix_dictionary.specs.declared.values.Side.{Side}
use Rattle.fix_dictionary.specs.declared.values.Side.TheVariants.{Buy, Sell}
use Rattle.sef_moment.specs.Utc.{utc_text}
use Rattle.trade_blotter.specs.Line.{room_emitted}
use Rattle.trade_blotter.specs.Table.{field_names as list_names, setup, trade_fields}
use Rattle.venue_rules.specs.declared.trail.TradeFact.{TradeFact}
use Rattle.venue_rules.specs.declared.trail.TrailRow.{TrailRow}
use Rattle.venue_rules.specs.Facts.{History}
use Rattle.venue_rules.specs.Market.{Market}
use Rattle.venue_rules.specs.Readings.{trade_facts}
use Rattle.venue_rules.specs.Run.{Input, run}
use Rattle.trade_table.specs.declared.execution.Execution.{Execution}
use Rattle.trade_table.specs.declared.execution.Matched.{Matched}
use Rattle.trade_table.specs.declared.execution.QuoteHit.{QuoteHit}
use Rattle.trade_table.specs.declared.execution.SideFilled.{SideFilled}
use Rattle.trade_table.specs.declared.execution.Source.{Source}
use Rattle.trade_table.specs.declared.execution.Source.TheVariants.{Book, Room}
use Rattle.row_replay.specs.Inputs.{AreOf}
use Rattle.trade_table.specs.Executions.{execution_of, executions}

-- the names of the fields behind those of the trade list
abbrev pub new_names : List (List ℕ)
new_names = codes "moment_utc" ∷ codes "row" ∷ codes "buy_order" ∷ codes "sell_order" ∷ codes "buy_id" ∷ codes "sell_id" ∷ codes "quote" ∷ codes "quote_id" ∷ codes "aggressor" ∷ codes "cross" ∷ []

abbrev pub field_names : List (List ℕ)
field_names = list_names ++ new_names

-- of two orders the one that bought, and the one that sold, by the side of the first

abbrev pub bought : Side → SideFilled → SideFilled → SideFilled
bought Buy one other = one
bought Sell one other = other

abbrev pub sold : Side → SideFilled → SideFilled → SideFilled
sold Buy one other = other
sold Sell one other = one

abbrev pub buying : Matched → SideFilled
buying x = bought x.entering.side x.entering x.resting

abbrev pub selling : Matched → SideFilled
selling x = sold x.entering.side x.entering x.resting

abbrev pub party : Side → List ℕ
party Buy = codes "buyer"
party Sell = codes "seller"

abbrev pub held_party : Side → List ℕ
held_party Buy = codes "held buyer"
held_party Sell = codes "held seller"

-- the side whose message made the trade; a held side entered without one, at the end of its delay
abbrev pub aggressor : Bool → Side → List ℕ
aggressor false side = party side
aggressor true side = held_party side

abbrev pub or_empty : Option (List ℕ) → List ℕ
or_empty None = []
or_empty (Some text) = text

abbrev pub order_text : SideFilled → List ℕ
order_text x = codes "O" ++ decimal x.order

abbrev pub book_fields : Matched → List (List ℕ)
book_fields x = order_text (buying x) ∷ order_text (selling x) ∷ (buying x).id ∷ (selling x).id ∷ [] ∷ [] ∷ aggressor x.at_tick x.entering.side ∷ or_empty x.cross ∷ []

abbrev pub quote_fields : QuoteHit → List (List ℕ)
quote_fields x = [] ∷ [] ∷ [] ∷ [] ∷ x.quote ∷ or_empty x.id ∷ party x.side ∷ [] ∷ []

abbrev pub source_fields : Source → List (List ℕ)
source_fields (Book x) = book_fields x
source_fields (Room x) = quote_fields x

abbrev pub execution_fields : Option Execution → List (List ℕ)
execution_fields None = [] ∷ [] ∷ [] ∷ [] ∷ [] ∷ [] ∷ [] ∷ [] ∷ [] ∷ [] ∷ []
execution_fields (Some x) = utc_text x.moment ∷ decimal x.row ∷ source_fields x.source

-- the row of a trade of a history, by how the trades of the day were made
unfoldable pub table_row : Market → History → List Execution → TradeFact → List ℕ
table_row m h xs t = row_text setup (trade_fields m t (room_emitted h t.room) ++ execution_fields (execution_of xs t.number))

-- the rows of all its trades, in order
abbrev pub table_rows : Market → History → List Execution → List ℕ
table_rows m h xs = flat_map (table_row m h xs) (trade_facts h.facts)

-- the names, and then the rows
abbrev pub table_of : Market → History → List Execution → List ℕ
table_of m h xs = row_text setup field_names ++ table_rows m h xs

-- the table of a day
abbrev pub table : Market → List TrailRow → List Input → List ℕ
table m rs is = table_of m (run m is).history (executions m rs is)

-- the names and the rows of the first trades, not of all
abbrev pub AppendsRows : Market → History → List Execution → Option (List ℕ) → Option (List ℕ) → Type 0
AppendsRows m h xs before after = (k : ℕ) × (k < length (trade_facts h.facts)) × Appends before after (row_text setup field_names ++ flat_map (table_row m h xs) (take k (trade_facts h.facts)))

-- nothing, or the beginning of the table
abbrev pub BeginsOf : Market → History → List Execution → Option (List ℕ) → Option (List ℕ) → Type 0
BeginsOf m h xs before after = Keeps before after ⊎ AppendsRows m h xs before after

-- the table of the run of these rows' inputs was written, and no other byte
pub record EmitsTable (m : Market) (rs : List TrailRow) (before after : Option (List ℕ)) : Type 0 where
  pub items : List Input
  pub emitted : AreOf rs items
  pub written : Appends before after (table m rs items)

-- the beginning of that table was written
pub record BeginsRows (m : Market) (rs : List TrailRow) (before after : Option (List ℕ)) : Type 0 where
  pub items : List Input
  pub emitted : AreOf rs items
  pub written : AppendsRows m (run m items).history (executions m rs items) before after

-- nothing, or the beginning of the table
abbrev pub BeginsTable : Market → List TrailRow → Option (List ℕ) → Option (List ℕ) → Type 0
BeginsTable m rs before after = Keeps before after ⊎ BeginsRows m rs before after
