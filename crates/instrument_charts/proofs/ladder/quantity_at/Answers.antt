use Rattle.std.proofs.Common.{◌+◌, ◌∙◌, ℕ, arith, ap}
use Rattle.std.specs.List.{sum_by}
use Rattle.instrument_charts.specs.Ladders.{left_at}
use Rattle.instrument_charts.proofs.Walks.{sums_on, sums_out}
use Rattle.instrument_charts.proofs.ladder.quantity_at.Goals as goal

pub loop-rest-preserved : goal.loop-rest-preserved
loop-rest-preserved c = (
  sums_on (left_at c.args.price) c.args.rests.now c.loop-rest.rest-index c.rest-item.result c.loop-rest.total _ (sum_by (left_at c.args.price) c.args.rests.now) c.loop-rest-test.true c.rest-item.is
      (ap (λ (n : ℕ). c.loop-rest.total + n) (c.from-total.ensures ∙ c.left_at.ensures)) c.loop-rest.invariant.0,
  omega (arith, c.loop-rest.invariant.1, c.from-total.ensures, c.left_at.type_inv),
)

pub returns : goal.returns
returns c = sums_out (left_at c.args.price) c.args.rests.now c.loop-rest.rest-index c.loop-rest.total (sum_by (left_at c.args.price) c.args.rests.now) c.loop-rest-test.false c.loop-rest.invariant.0
