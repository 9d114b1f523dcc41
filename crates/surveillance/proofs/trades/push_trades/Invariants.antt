use Rattle.std.proofs.Common.{◌≡◌, ◌++◌, take}
use Rattle.std.specs.List.{flat_map}
use Rattle.surveillance.specs.Alarms.{trade_alarms}
use Rattle.surveillance.specs.Numbers.{held}
use Rattle.surveillance.proofs.trades.push_trades.Given as goal

-- those of what was looked at so far
abbrev pub invariant-loop-trade : goal.invariant-loop-trade
invariant-loop-trade l = l.alarms.items ≡ l.fn.alarms.items ++ flat_map (trade_alarms l.bound (record { participants = l.listed.participants.now; instruments = l.listed.instruments.now }) (record { reports = held l.looked.reports.now; entries = held l.looked.entries.now; orders = held l.looked.orders.now })) (take l.trade-index l.trades)
