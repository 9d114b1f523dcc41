use Rattle.std.proofs.Common.{◌≡◌, ◌+◌, ◌∙◌, ℕ, Bool, arith, ap, cond, sym}
use Rattle.std.specs.List.{sum_by}
use Rattle.day_tables.specs.Bulletin.{is_of}
use Rattle.day_tables.proofs.Walks.{sums_on, sums_out}
use Rattle.day_tables.proofs.bulletin.number.Goals as goal

pub loop-trade-preserved : goal.loop-trade-preserved
loop-trade-preserved c = (
  sums_on (λ t. cond (is_of c.args.instrument c.args.place t) 1 0) c.args.trades.now c.loop-trade.trade-index c.trade-item.result c.loop-trade.count _ (sum_by (λ t. cond (is_of c.args.instrument c.args.place t) 1 0) c.args.trades.now) c.loop-trade-test.true c.trade-item.is
      (ap (λ (n : ℕ). c.loop-trade.count + n) (c.one_if-count.ensures.result ∙ ap (λ (b : Bool). cond b 1 0) c.is_of.ensures)) c.loop-trade.invariant.0,
  omega (arith, c.loop-trade.invariant.1, c.one_if-count.ensures.few),
)

pub returns : goal.returns
returns c = sums_out (λ t. cond (is_of c.args.instrument c.args.place t) 1 0) c.args.trades.now c.loop-trade.trade-index c.loop-trade.count (sum_by (λ t. cond (is_of c.args.instrument c.args.place t) 1 0) c.args.trades.now) c.loop-trade-test.false c.loop-trade.invariant.0
