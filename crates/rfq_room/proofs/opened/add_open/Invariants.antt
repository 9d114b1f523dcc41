use Rattle.std.proofs.Common.{◌≡◌, ◌≤◌, ◌+◌, ◌++◌, take, map}
use Rattle.std.specs.Vec.{vec_capacity, vec_len}
use Rattle.venue_rules.specs.Facts.{rooms}
use Rattle.rfq_room.specs.Openness.{open_room}
use Rattle.rfq_room.proofs.opened.add_open.Given as goal

abbrev pub invariant-loop-fact : goal.invariant-loop-fact
invariant-loop-fact l = (l.rooms.items ≡ l.fn.rooms.items ++ map open_room (rooms (take l.fact-index l.facts))) × (vec_len l.rooms ≤ vec_len l.fn.rooms + l.fact-index) × (vec_capacity l.rooms ≡ vec_capacity l.fn.rooms)
