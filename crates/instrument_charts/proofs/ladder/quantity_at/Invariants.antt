use Rattle.std.proofs.Common.{◌≡◌, ◌+◌, ◌*◌, ◌^◌, ◌≤◌, drop}
use Rattle.std.specs.List.{sum_by}
use Rattle.instrument_charts.specs.Ladders.{left_at}
use Rattle.instrument_charts.proofs.ladder.quantity_at.Given as goal

-- the sum so far, and then that of the others, is the whole
abbrev pub invariant-loop-rest : goal.invariant-loop-rest
invariant-loop-rest l = (l.total + sum_by (left_at l.price) (drop l.rest-index l.rests) ≡ sum_by (left_at l.price) l.rests) × (l.total ≤ l.rest-index * 2 ^ 64)
