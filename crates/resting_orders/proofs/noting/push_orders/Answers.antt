use Rattle.resting_orders.specs.Noting.{entered_by}
use Rattle.resting_orders.proofs.Members.{picked_more}
use Rattle.resting_orders.proofs.noting.push_orders.Goals as goal

pub loop-reply-preserved : goal.loop-reply-preserved
loop-reply-preserved c =
    picked_more (entered_by c.args.at.now) c.args.replies.now c.loop-reply.reply-index c.reply-item.result _ _ _ c.entered_by.result c.loop-reply-test.true c.reply-item.is c.loop-reply.invariant c.entered_by.ensures c.in_ok-push_order.ensures
