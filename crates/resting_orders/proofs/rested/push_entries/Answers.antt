use Rattle.resting_orders.specs.Resting.{rested_at}
use Rattle.resting_orders.proofs.Members.{picked_more}
use Rattle.resting_orders.proofs.rested.push_entries.Goals as goal

pub loop-entry-preserved : goal.loop-entry-preserved
loop-entry-preserved c =
    picked_more (rested_at c.args.orders.now c.args.symbol) c.args.entries.now c.loop-entry.entry-index c.entry-item.result _ _ _ c.rested_at.result c.loop-entry-test.true c.entry-item.is c.loop-entry.invariant c.rested_at.ensures c.in_ok-push_rested.ensures
