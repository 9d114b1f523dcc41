use Rattle.std.proofs.Common.{◌≡◌, filter, take}
use Rattle.resting_orders.specs.Rests.{is_request_of}
use Rattle.resting_orders.proofs.rests.requests_of.Given as goal

abbrev pub invariant-loop-request : goal.invariant-loop-request
invariant-loop-request l = l.owned.items ≡ filter (is_request_of l.who) (take l.request-index l.requests)
