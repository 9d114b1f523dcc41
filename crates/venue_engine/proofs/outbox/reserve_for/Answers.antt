use Rattle.std.proofs.Common.{◌∙◌, sym, subst, List, ℕ, length}
use Rattle.venue_engine.specs.Outbox.{HaveCapacity}
use Rattle.venue_engine.proofs.Queues.{recipients_more, capacity_more}
use Rattle.venue_engine.proofs.outbox.reserve_for.Goals as goal

pub loop-reply-preserved : goal.loop-reply-preserved
loop-reply-preserved c =
    let rs = c.args.replies.now in
    let k = c.loop-reply.reply-index in
    let ds = c.reserve_at.new.queues.items in
    let e = c.in_ok-reserve_at.ensures in
    record {
      same = e.same ∙ c.loop-reply.invariant.same;
      capacity = subst (λ (l : List ℕ). HaveCapacity (length rs) ds l) (sym (recipients_more rs k c.reply-item.result c.loop-reply-test.true c.reply-item.is))
          (capacity_more _ ds (length rs) c.reply-item.result.to (e.kept _ c.loop-reply.invariant.capacity) e.capacity);
    }
