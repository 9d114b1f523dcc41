use Rattle.std.specs.Prelude.{◌≡◌, ℕ, Bool, List, is_some}
use Rattle.std.specs.List.{list_all}
use Rattle.venue_rules.specs.declared.facts.Fact.{Fact}
use Rattle.venue_rules.specs.declared.trail.RoomFact.{RoomFact}
use Rattle.venue_rules.specs.Facts.{quotes}
use Rattle.venue_rules.specs.Readings.{room_fact}
use Rattle.venue_rules.specs.Rooms.{first_quote}
use Rattle.trade_history.specs.Quoted.{found}

-- each room is found among these, as its reading after these facts
abbrev pub IsReadOf : List RoomFact → List Fact → Type 0
IsReadOf rooms facts = (number : ℕ) → found number rooms ≡ room_fact facts number

-- each added quote is in a room that had one before
abbrev pub are_later : List Fact → List Fact → Bool
are_later facts added = list_all (λ q. is_some (first_quote facts q.room)) (quotes added)
