use Rattle.std.proofs.Common.{◌≡◌, filter, take}
use Rattle.resting_orders.specs.Asking.{is_still_open}
use Rattle.resting_orders.proofs.asking.open_at.Given as goal

abbrev pub invariant-loop-request : goal.invariant-loop-request
invariant-loop-request l = l.open.items ≡ filter (is_still_open l.closed l.moment) (take l.request-index l.requests)
