use Rattle.std.proofs.Common.{◌+◌, ◌≤◌, ap, subst, sym, ◌∙◌}
use Rattle.venue_engine.proofs.Few.{empty_more}
use Rattle.venue_engine.proofs.engine.empty_queues.Goals as goal

pub loop-preserved : goal.loop-preserved
loop-preserved c =
    let i = c.loop.invariant in
    let pushed = c.push_reserved.ensures in
    let more = empty_more c.loop.queues.items c.push_reserved.new.self.items c.in-Ok.queue c.loop.counter i.long pushed.items c.in-Ok.ensures i.empty in
    record {
      long = more.0;
      empty = more.1;
      len = pushed.len ∙ ap (λ n. n + 1) i.len;
      capacity = subst (λ n. c.args.count ≤ n) (sym pushed.capacity) i.capacity;
    }
