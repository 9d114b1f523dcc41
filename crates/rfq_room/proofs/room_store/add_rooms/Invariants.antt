use Rattle.std.proofs.Common.{◌≡◌, ◌≤◌, ◌+◌, ◌++◌, length}
use Rattle.std.specs.Vec.{vec_capacity, vec_len}
use Rattle.std.specs.Vec.Iter.{into_iter_items, into_iter_len}
use Rattle.venue_rules.specs.Facts.{rooms}
use Rattle.rfq_room.proofs.room_store.add_rooms.Given as goal

abbrev pub invariant-loop-fact : goal.invariant-loop-fact
invariant-loop-fact l = (l.kept.items ++ rooms (into_iter_items l.fact-iterator) ≡ l.fn.kept.items ++ rooms l.fn.facts.items) × (into_iter_len l.fact-iterator ≡ length (into_iter_items l.fact-iterator)) × (vec_len l.kept + into_iter_len l.fact-iterator ≤ vec_capacity l.kept)
