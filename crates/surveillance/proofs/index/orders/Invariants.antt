use Rattle.std.proofs.Common.{◌≡◌, drop}
use Rattle.surveillance.specs.Index.{orders, orders_from}
use Rattle.surveillance.specs.Numbers.{held}
use Rattle.surveillance.proofs.index.orders.Given as goal

-- the map so far, and then the other events, are all
abbrev pub invariant-loop-event : goal.invariant-loop-event
invariant-loop-event l = orders_from (held l.pairs) (drop l.event-index l.events) ≡ orders l.events
