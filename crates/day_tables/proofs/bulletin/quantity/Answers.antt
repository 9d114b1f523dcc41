use Rattle.std.proofs.Common.{◌≡◌, ◌+◌, ◌∙◌, ℕ, Bool, arith, ap, cond, sym}
use Rattle.std.specs.List.{sum_by}
use Rattle.day_tables.specs.Bulletin.{moved}
use Rattle.day_tables.proofs.Walks.{sums_on, sums_out}
use Rattle.day_tables.proofs.bulletin.quantity.Goals as goal

pub loop-trade-preserved : goal.loop-trade-preserved
loop-trade-preserved c = (
  sums_on (moved c.args.instrument c.args.place) c.args.trades.now c.loop-trade.trade-index c.trade-item.result c.loop-trade.total _ (sum_by (moved c.args.instrument c.args.place) c.args.trades.now) c.loop-trade-test.true c.trade-item.is
      (ap (λ (n : ℕ). c.loop-trade.total + n) (c.from-total.ensures ∙ c.moved.ensures)) c.loop-trade.invariant.0,
  omega (arith, c.loop-trade.invariant.1, c.from-total.ensures, c.moved.type_inv),
)

pub returns : goal.returns
returns c = sums_out (moved c.args.instrument c.args.place) c.args.trades.now c.loop-trade.trade-index c.loop-trade.total (sum_by (moved c.args.instrument c.args.place) c.args.trades.now) c.loop-trade-test.false c.loop-trade.invariant.0
