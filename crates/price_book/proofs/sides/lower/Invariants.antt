use Rattle.std.proofs.Common.{◌≤◌, ◌<◌, ◌-◌, ℕ, length, get_or}
use Rattle.price_book.specs.declared.side_queue.SideQueue.{SideQueue}
use Rattle.price_book.specs.SideIndex.{rung_of}
use Rattle.price_book.proofs.sides.lower.Given as goal

abbrev pub invariant-loop-low : goal.invariant-loop-low
invariant-loop-low l = (l.low ≤ l.high) × (l.high ≤ length l.side_queues) × ((k : ℕ) (d : SideQueue) → k < l.low → rung_of (get_or l.side_queues k d) < l.wanted) × ((k : ℕ) (d : SideQueue) → l.high ≤ k → k < length l.side_queues → l.wanted ≤ rung_of (get_or l.side_queues k d))

abbrev pub decreases-loop-low : goal.decreases-loop-low
decreases-loop-low l = l.high - l.low
