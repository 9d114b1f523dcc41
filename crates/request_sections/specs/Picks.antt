-- Events of a room.
use Rattle.std.specs.Prelude.{ℕ, ◌+◌, ◌==◌, ◌&&◌, Bool, false, not, List, bytes_eq, Option, Some, None}
use Rattle.std.specs.List.{list_any}
use Rattle.venue_rules.specs.Rooms.{printed}
use Rattle.day_events.specs.declared.event.Event.{Event}
use Rattle.day_events.specs.declared.event.What.{What}
use Rattle.day_events.specs.declared.event.What.TheVariants as what
use Rattle.day_sections.specs.Counts.{is_quoted}
use Rattle.request_sections.specs.declared.picks.Pick.{Pick}
use Rattle.request_sections.specs.declared.picks.Pick.TheVariants as pick

-- the venue's identifier of a room, as R1
abbrev pub names_room : ℕ → Option (List ℕ) → Bool
names_room n None = false
names_room n (Some id) = bytes_eq (printed 82 n) id

abbrev pub is_asked_in : ℕ → What → Bool
is_asked_in room (what.Asked r) = r.room == room
is_asked_in room _ = false

-- a request by its number; a quote names its room: the message of its row is a quote, whose request (131) is that
abbrev pub is_picked : Pick → Event → Bool
is_picked (pick.Asked room) e = is_asked_in room e.what
is_picked (pick.Quotes room) e = is_quoted e.what && names_room room e.at.named

-- of those who were asked, who sent none of these quotes

abbrev pub is_silent : List Event → Event → Bool
is_silent quotes a = not (list_any (λ q. q.at.from == a.to + 1) quotes)
