-- The output of a day's trades, and what was written where an allocation fails between two of them.
use Rattle.std.specs.Prelude.{◌⊎◌, ◌<◌, ◌++◌, ℕ, List, Option, length, take}
use Rattle.std.specs.List.{flat_map}
use Rattle.std.specs.Io.KnownBytes.{Appends, Keeps}
use Rattle.csv.specs.Writing.{row_text}
use Rattle.venue_rules.specs.Facts.{History}
use Rattle.venue_rules.specs.Market.{Market}
use Rattle.venue_rules.specs.Readings.{trade_facts}
use Rattle.venue_rules.specs.declared.trail.TradeFact.{TradeFact}
use Rattle.trade_blotter.specs.declared.form.Form.{Form}
use Rattle.trade_blotter.specs.declared.form.Form.TheVariants.{Line, Row}
use Rattle.trade_blotter.specs.Line.{trade_line}
use Rattle.trade_blotter.specs.Table.{field_names, setup, trade_row}

-- the text of a trade of a history
abbrev pub trade_text : Form → Market → History → TradeFact → List ℕ
trade_text Line m h = trade_line m h
trade_text Row m h = trade_row m h

-- the texts of the first of these things were written, not of all, and no other byte
abbrev pub AppendsSome : {A : Type 0} → Option (List ℕ) → Option (List ℕ) → (A → List ℕ) → List A → Type 0
AppendsSome before after text things = (k : ℕ) × (k < length things) × Appends before after (flat_map text (take k things))

-- the lines of the first trades of a history
abbrev pub BeginsLines : Option (List ℕ) → Option (List ℕ) → Market → History → Type 0
BeginsLines before after m h = AppendsSome before after (trade_line m h) (trade_facts h.facts)

-- the names of the fields and the rows of the first trades, and no other byte
abbrev pub AppendsRows : Option (List ℕ) → Option (List ℕ) → Market → History → Type 0
AppendsRows before after m h = (k : ℕ) × (k < length (trade_facts h.facts)) × Appends before after (row_text setup field_names ++ flat_map (trade_row m h) (take k (trade_facts h.facts)))

-- nothing, or the beginning of the table
abbrev pub BeginsTable : Option (List ℕ) → Option (List ℕ) → Market → History → Type 0
BeginsTable before after m h = Keeps before after ⊎ AppendsRows before after m h
