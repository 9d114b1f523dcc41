use Rattle.std.proofs.Common.{◌≡◌, ℕ, ◌+◌, ◌≤◌, ◌||◌, length, take}
use Rattle.rfq_room.specs.Flags.{is_set}
use Rattle.rfq_room.specs.Flagged.{count_of, is_flagged}
use Rattle.rfq_room.proofs.room_index.add_flags.Given as goal

abbrev pub invariant-loop-fact : goal.invariant-loop-fact
invariant-loop-fact l = record {
  flags : (n : ℕ) → is_set l.flags.flags n ≡ (is_flagged l.flag (take l.fact-index l.facts) n || is_set l.fn.flags.flags n);
  count : length l.flags.flags ≡ length l.fn.flags.flags + count_of l.flag (take l.fact-index l.facts);
  headroom : l.fn.flags.headroom ≤ l.flags.headroom + l.fact-index;
}
