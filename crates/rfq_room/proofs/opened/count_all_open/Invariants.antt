use Rattle.std.proofs.Common.{◌≡◌, ◌≤◌, length, take, filter}
use Rattle.venue_rules.specs.Rooms.{is_open}
use Rattle.rfq_room.proofs.opened.count_all_open.Given as goal

abbrev pub invariant-loop-room : goal.invariant-loop-room
invariant-loop-room l = (l.count ≡ length (filter (is_open l.known_flags.facts l.moment) (take l.room-index l.rooms))) × (l.count ≤ l.room-index)
