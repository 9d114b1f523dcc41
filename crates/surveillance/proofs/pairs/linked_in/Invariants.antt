use Rattle.std.proofs.Common.{◌≡◌, take}
use Rattle.std.specs.List.{flat_map}
use Rattle.surveillance.specs.Pairs.{linked_at}
use Rattle.surveillance.specs.Numbers.{held}
use Rattle.surveillance.proofs.pairs.linked_in.Given as goal

-- those of what was looked at so far
abbrev pub invariant-loop-trade : goal.invariant-loop-trade
invariant-loop-trade l = l.linked.items ≡ flat_map (linked_at (record { participants = l.listed.participants.now; instruments = l.listed.instruments.now }) (record { reports = held l.looked.reports.now; entries = held l.looked.entries.now; orders = held l.looked.orders.now })) (take l.trade-index l.trades)
