use Rattle.resting_orders.specs.Quoting.{quoted_by}
use Rattle.resting_orders.proofs.Members.{picked_more}
use Rattle.resting_orders.proofs.quoting.push_sent.Goals as goal

pub loop-reply-preserved : goal.loop-reply-preserved
loop-reply-preserved c =
    picked_more (quoted_by c.args.maker c.args.quote.now) c.args.replies.now c.loop-reply.reply-index c.reply-item.result _ _ _ c.quoted_what.result c.loop-reply-test.true c.reply-item.is c.loop-reply.invariant c.quoted_what.ensures c.in_ok-push_quote.ensures
