use Rattle.std.proofs.Common.{◌≡◌, ◌||◌, drop}
use Rattle.std.specs.List.{list_any}
use Rattle.trail_comparison.specs.Trades.{alone, alone_from, is_in_room}
use Rattle.trail_comparison.proofs.trades.has_room.Given as goal

abbrev pub invariant-loop-trade : goal.invariant-loop-trade
invariant-loop-trade l =
    (l.at ≡ l.trade-index)
    × ((l.found || list_any is_in_room (alone_from l.compared.all.now l.compared.others.now l.trade-index (drop l.trade-index l.compared.all.now)))
    ≡ list_any is_in_room (alone l.compared.all.now l.compared.others.now))
