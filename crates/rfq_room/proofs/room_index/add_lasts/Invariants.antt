use Rattle.std.proofs.Common.{◌≡◌, ℕ, ◌≤◌, ◌+◌, take}
use Rattle.std.specs.Option.{option_or}
use Rattle.rfq_room.specs.LastQuotes.{last_in}
use Rattle.rfq_room.specs.Flagged.{last_number}
use Rattle.rfq_room.proofs.room_index.add_lasts.Given as goal

abbrev pub invariant-loop-fact : goal.invariant-loop-fact
invariant-loop-fact l = ((room maker : ℕ) → last_in l.lasts.entries room maker ≡ option_or (last_number (take l.fact-index l.facts) room maker) (last_in l.fn.lasts.entries room maker)) × (l.fn.lasts.headroom ≤ l.lasts.headroom + l.fact-index)
