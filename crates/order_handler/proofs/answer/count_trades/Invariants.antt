use Rattle.std.proofs.Common.{◌≡◌, ◌≤◌, length, take}
use Rattle.venue_rules.specs.Facts.{trades}
use Rattle.order_handler.proofs.answer.count_trades.Given as goal

abbrev pub invariant-loop-fact : goal.invariant-loop-fact
invariant-loop-fact l = (l.count ≡ length (trades (take l.fact-index l.facts))) × (l.count ≤ l.fact-index)
