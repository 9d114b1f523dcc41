use Rattle.std.proofs.Common.{ℕ, ◌-◌, ◌<◌, ◌≤◌, length, drop}
use Rattle.fix_frame.specs.Stream.{IsOpen}
use Rattle.fix_frame.proofs.garbage.pass_garbage.Given as goal

abbrev pub invariant-loop-look : goal.invariant-loop-look
invariant-loop-look l = record {
  inside : l.passed < length l.bytes;
  never : (k : ℕ) → k ≤ l.passed → IsOpen (drop k l.bytes) → ⊥;
}

abbrev pub decreases-loop-look : goal.decreases-loop-look
decreases-loop-look l = length l.bytes - l.passed
