-- The requests for quotes of a day.
use Rattle.std.specs.Prelude.{ℕ, ◌+◌, ◌==◌, Bool, true, false, ◌&&◌, not, List, [], ◌∷◌, ◌++◌, if◌then◌else◌}
use Rattle.day_events.specs.declared.event.Event.{Event}
use Rattle.day_events.specs.declared.event.What.{What}
use Rattle.day_events.specs.declared.event.What.TheVariants as what

-- the room that an event asks in; rooms are numbered from 1
abbrev pub asked_room : What → ℕ
asked_room (what.Asked x) = x.room
asked_room _ = 0

abbrev pub kept_if : Bool → Event → List Event
kept_if true e = e ∷ []
kept_if false e = []

abbrev pub is_first_asked : ℕ → What → Bool
is_first_asked last w = not (asked_room w == 0) && not (asked_room w == last)

abbrev pub room_after : ℕ → What → ℕ
room_after last w = if asked_room w == 0 then last else asked_room w

-- Of each room the first event that asks in it: a request is sent to all its recipients in one answer, so that the
-- events of a room stand together.
abbrev pub rooms_from : ℕ → List Event → List Event
rooms_from last [] = []
rooms_from last (e ∷ es) = kept_if (is_first_asked last e.what) e ++ rooms_from (room_after last e.what) es

abbrev pub rooms : List Event → List Event
rooms es = rooms_from 0 es

-- a request of the participant at this place
abbrev pub is_made : ℕ → Event → Bool
is_made place e = e.at.from == place + 1
