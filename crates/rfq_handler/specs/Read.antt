use Rattle.std.specs.Prelude.{ℕ, List, [], ◌∷◌, Option, Some, None}
use Rattle.venue_rules.specs.declared.facts.Fact.{Fact}
use Rattle.venue_rules.specs.declared.facts.Fact.TheVariants.{Traded, Withdrawn}
use Rattle.venue_rules.specs.declared.facts.TradeSource.{TradeSource}
use Rattle.venue_rules.specs.declared.facts.TradeSource.TheVariants.{Book as InBook, Room as InRoom}
use Rattle.venue_rules.specs.Facts.{room_in, quote_in}
use Rattle.venue_rules.specs.declared.facts.Room.{Room}
use Rattle.venue_rules.specs.declared.facts.RoomQuote.{RoomQuote}

-- the room that a plan's first fact opens, and the quote that it makes
abbrev pub first_room : List Fact → Option Room
first_room [] = None
first_room (f ∷ fs) = room_in f

abbrev pub first_made : List Fact → Option RoomQuote
first_made [] = None
first_made (f ∷ fs) = quote_in f

-- the number of the quote that it passes or hits

abbrev pub quote_at : TradeSource → Option ℕ
quote_at (InBook resting entering) = None
quote_at (InRoom room quote) = Some quote

abbrev pub answered_in : Fact → Option ℕ
answered_in (Withdrawn w) = Some w.quote
answered_in (Traded t) = quote_at t.place
answered_in _ = None

abbrev pub first_answered : List Fact → Option ℕ
first_answered [] = None
first_answered (f ∷ fs) = answered_in f
