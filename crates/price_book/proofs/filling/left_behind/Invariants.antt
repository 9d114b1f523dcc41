use Rattle.std.proofs.Common.{◌≡◌, ◌≤◌, drop}
use Rattle.price_book.specs.Live.{left_behind}
use Rattle.price_book.proofs.filling.left_behind.Given as goal

abbrev pub invariant-loop-fact : goal.invariant-loop-fact
invariant-loop-fact l = (left_behind l.order l.left (drop l.fact-index l.facts) ≡ left_behind l.order l.quantity l.facts) × (l.left ≤ l.quantity)
