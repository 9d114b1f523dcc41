use Rattle.std.specs.Prelude.{ℕ, Bool, List}
use Rattle.venue_rules.specs.declared.facts.Fact.{Fact}
use Rattle.venue_rules.specs.declared.facts.Room.{Room}
use Rattle.rfq_room.specs.declared.opened.OpenRoom.{OpenRoom}
use Rattle.rfq_room.specs.Flagged.{still_open}

-- what is kept of a room while it may be open
abbrev pub open_room : Room → OpenRoom
open_room r = record { number = r.number; end = r.end }

abbrev pub is_still_open : List Fact → ℕ → OpenRoom → Bool
is_still_open facts t o = still_open facts t o.number o.end
