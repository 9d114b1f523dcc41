use Rattle.std.proofs.Common.{◌≡◌, ℕ, ◌≤◌, ◌<◌, get_or}
use Rattle.price_book.specs.Numbered.{no_key}
use Rattle.price_book.proofs.named.spot.Given as goal

abbrev pub invariant-loop-at : goal.invariant-loop-at
invariant-loop-at l = (k : ℕ) → l.from ≤ k → k < l.at → (get_or l.keys k no_key).number ≡ l.number → ⊥
