use Rattle.std.specs.Prelude.{ℕ, ◌==◌, List, map, find, Option}
use Rattle.venue_rules.specs.declared.facts.Room.{Room}
use Rattle.venue_rules.specs.declared.replies.SnapshotEntry.{SnapshotEntry}
use Rattle.venue_rules.specs.declared.trail.RoomFact.{RoomFact}
use Rattle.venue_rules.specs.Readings.{shown_order}

-- readings of a day's rooms with a quote, and spare capacity
pub record Quoted : Type 0 where
  pub rooms : List RoomFact
  pub room : ℕ

-- the room with a number
abbrev pub found : ℕ → List RoomFact → Option RoomFact
found number rooms = find (λ f. f.number == number) rooms

-- a room with a quote of this number, with which these orders were shown
abbrev pub room_shown : Room → ℕ → List SnapshotEntry → RoomFact
room_shown r first entries = record { number = r.number; requester = r.requester; asked = r.recipients; first = first; shown = map shown_order entries }
