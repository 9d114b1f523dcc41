use Rattle.std.specs.Prelude.{ℕ, ◌==◌, List, Option, Some, None, filter, find, bytes_eq}
use Rattle.venue_rules.specs.declared.facts.Fact.{Fact}
use Rattle.venue_rules.specs.declared.facts.Room.{Room}
use Rattle.venue_rules.specs.declared.facts.RoomQuote.{RoomQuote}
use Rattle.venue_rules.specs.Facts.{quotes}
use Rattle.venue_rules.specs.Rooms.{find_quote, live_quotes, room_by_number}

-- a quote by its number
abbrev pub quote_by_number : List Fact → ℕ → Option RoomQuote
quote_by_number facts number = find (λ q. q.number == number) (quotes facts)

abbrev pub room_with : List Fact → Option RoomQuote → Option Room
room_with facts None = None
room_with facts (Some q) = room_by_number facts q.room

-- the room of the quote with this identifier of the venue's
abbrev pub quote_room : List Fact → List ℕ → Option Room
quote_room facts id = room_with facts (find_quote facts id)

-- a maker's live quotes; with a name, those with this identifier of the maker's
abbrev pub named_quotes : List Fact → ℕ → ℕ → Option (List ℕ) → List RoomQuote
named_quotes facts maker t None = live_quotes facts maker t
named_quotes facts maker t (Some id) = filter (λ q. bytes_eq q.id id) (live_quotes facts maker t)
