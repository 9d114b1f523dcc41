use Rattle.std.proofs.Common.{◌≡◌, ℕ, ◌≤◌, ◌+◌, ◌||◌, List, take}
use Rattle.std.specs.List.{list_any}
use Rattle.client_ids.specs.ClientIds.{is_of}
use Rattle.rfq_room.specs.Flagged.{names_in}
use Rattle.rfq_room.proofs.room_index.add_names.Given as goal

abbrev pub invariant-loop-fact : goal.invariant-loop-fact
invariant-loop-fact l = ((who : ℕ) (id : List ℕ) → list_any (is_of who id) l.used.names ≡ (list_any (is_of who id) (names_in l.named (take l.fact-index l.facts)) || list_any (is_of who id) l.fn.used.names)) × (l.fn.used.headroom ≤ l.used.headroom + l.fact-index)
