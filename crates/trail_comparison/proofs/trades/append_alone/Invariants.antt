use Rattle.std.proofs.Common.{◌≡◌, ◌++◌, ◌+◌, ◌≤◌, drop, length}
use Rattle.trail_comparison.specs.Trades.{alone, alone_from, trade_lines}
use Rattle.trail_comparison.proofs.trades.append_alone.Given as goal

abbrev pub invariant-loop-trade : goal.invariant-loop-trade
invariant-loop-trade l =
    (l.at ≡ l.trade-index) × (l.count ≤ l.trade-index)
    × (l.text.items ++ trade_lines l.compared.label.now l.compared.venue.now.market (alone_from l.compared.all.now l.compared.others.now l.trade-index (drop l.trade-index l.compared.all.now))
    ≡ l.fn.text.items ++ trade_lines l.compared.label.now l.compared.venue.now.market (alone l.compared.all.now l.compared.others.now))
    × (l.count + length (alone_from l.compared.all.now l.compared.others.now l.trade-index (drop l.trade-index l.compared.all.now)) ≡ length (alone l.compared.all.now l.compared.others.now))
