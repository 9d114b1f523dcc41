use Rattle.std.proofs.Common.{◌≡◌, filter, take}
use Rattle.resting_orders.specs.Rests.{is_side_of}
use Rattle.resting_orders.proofs.rests.sides_of.Given as goal

abbrev pub invariant-loop-side : goal.invariant-loop-side
invariant-loop-side l = l.owned.items ≡ filter (is_side_of l.who) (take l.side-index l.held)
