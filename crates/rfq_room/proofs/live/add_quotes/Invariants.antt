use Rattle.std.proofs.Common.{◌≡◌, ◌≤◌, ◌+◌, ◌++◌, take}
use Rattle.std.specs.Vec.{vec_capacity, vec_len}
use Rattle.venue_rules.specs.Facts.{quotes}
use Rattle.rfq_room.proofs.live.add_quotes.Given as goal

abbrev pub invariant-loop-fact : goal.invariant-loop-fact
invariant-loop-fact l = (l.kept.items ≡ l.fn.kept.items ++ quotes (take l.fact-index l.facts)) × (vec_len l.kept ≤ vec_len l.fn.kept + l.fact-index) × (vec_capacity l.kept ≡ vec_capacity l.fn.kept)
