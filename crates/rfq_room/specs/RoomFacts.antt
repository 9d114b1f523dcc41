use Rattle.std.specs.Prelude.{Bool, true, false, List, filter}
use Rattle.venue_rules.specs.declared.facts.Fact.{Fact}
use Rattle.venue_rules.specs.declared.facts.Fact.TheVariants.{Entered, Traded, Removed, Held, Unheld, Asked, Quoted, Withdrawn, Closed}
use Rattle.venue_rules.specs.declared.facts.TradeSource.{TradeSource}
use Rattle.venue_rules.specs.declared.facts.TradeSource.TheVariants.{Book as InBook, Room as InRoom}

abbrev pub is_in_room : TradeSource → Bool
is_in_room (InBook resting entering) = false
is_in_room (InRoom room quote) = true

-- a fact of a room: a request, a quote, its withdrawal, a trade in the room, and the room's closing
abbrev pub is_room_fact : Fact → Bool
is_room_fact (Entered e) = false
is_room_fact (Traded t) = is_in_room t.place
is_room_fact (Removed r) = false
is_room_fact (Held h) = false
is_room_fact (Unheld u) = false
is_room_fact (Asked r) = true
is_room_fact (Quoted q) = true
is_room_fact (Withdrawn w) = true
is_room_fact (Closed c) = true

-- the facts of the rooms among a venue's facts
abbrev pub room_facts : List Fact → List Fact
room_facts facts = filter is_room_fact facts
