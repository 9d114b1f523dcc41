use Rattle.std.specs.Prelude.{◌≡◌, ℕ, ◌-◌, ◌==◌, List, [], ◌∷◌, map, if◌then◌else◌}
use Rattle.fix_dictionary.specs.declared.messages.App.{App}
use Rattle.fix_dictionary.specs.Text.{app_text}
use Rattle.venue_rules.specs.declared.trail.TrailRow.{TrailRow}
use Rattle.venue_rules.specs.Run.{Input, Message, Tick, rows}

-- The inputs that rows stand for, by their texts.

abbrev pub input_of : (List ℕ → App) → TrailRow → Input
input_of read r = if r.who == 0 then Tick r.moment else Message (record { from = r.who - 1; item = record { era = r.era; number = r.number; app = read r.text } }) r.moment

-- each message's text decodes to the message
abbrev pub AreReadBack : (List ℕ → App) → List Input → Type 0
AreReadBack read [] = Unit {0}
AreReadBack read (Message taken t ∷ is) = (read (app_text taken.item.app) ≡ taken.item.app) × AreReadBack read is
AreReadBack read (Tick t ∷ is) = AreReadBack read is

-- the rows of a list of inputs give the list back, for any decoder of their texts
abbrev pub RowsAreReadBack : Type 0
RowsAreReadBack = (read : List ℕ → App) (is : List Input) → AreReadBack read is → map (input_of read) (rows is) ≡ is
