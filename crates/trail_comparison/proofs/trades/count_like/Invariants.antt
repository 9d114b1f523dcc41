use Rattle.std.proofs.Common.{◌≡◌, ◌≤◌, take}
use Rattle.std.specs.List.{count_by}
use Rattle.trail_comparison.specs.Trades.{is_like}
use Rattle.trail_comparison.proofs.trades.count_like.Given as goal

abbrev pub invariant-loop-other : goal.invariant-loop-other
invariant-loop-other l = (l.count ≡ count_by (is_like l.trade) (take l.other-index l.trades)) × (l.count ≤ l.other-index)
