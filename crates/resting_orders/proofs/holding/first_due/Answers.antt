use Rattle.std.proofs.Common.{subst, sym}
use Rattle.resting_orders.proofs.HeldSides.{IsPassed, due_more, passed_more}
use Rattle.resting_orders.proofs.holding.first_due.Goals as goal

pub loop-side-preserved : goal.loop-side-preserved
loop-side-preserved c = (
  due_more c.args.moment c.args.held.now c.loop-side.side-index c.side-item.result c.loop-side.due c.sooner_due-due.result c.loop-side-test.true c.side-item.is c.loop-side.invariant.0 c.sooner_due-due.ensures,
  subst (IsPassed c.args.moment) (sym c.sooner_due-due.ensures) (passed_more c.args.moment c.loop-side.due c.side-item.result c.loop-side.invariant.1),
)
