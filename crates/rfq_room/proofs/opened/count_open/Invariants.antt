use Rattle.std.proofs.Common.{◌≡◌, ◌≤◌, length, take, filter}
use Rattle.rfq_room.specs.Openness.{is_still_open}
use Rattle.rfq_room.proofs.opened.count_open.Given as goal

abbrev pub invariant-loop-room : goal.invariant-loop-room
invariant-loop-room l = (l.count ≡ length (filter (is_still_open l.known_flags.facts l.moment) (take l.room-index l.rooms))) × (l.count ≤ l.room-index)
