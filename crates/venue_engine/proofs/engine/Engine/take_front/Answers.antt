use Rattle.std.proofs.Common.{◌≤◌, ◌<◌, ℕ, length, length-set, sym, subst}
use Rattle.venue_engine.specs.Ledger.{Ledger, ledger}
use Rattle.venue_engine.specs.Step.{IsFront, with_queue}
use Rattle.venue_engine.proofs.Few.{few_popped, few_set, front_by}
use Rattle.venue_engine.proofs.Lists.{at_read}
use Rattle.venue_engine.proofs.engine.Engine.take_front.Goals as goal

pub invariant_of-self : goal.invariant_of-self
invariant_of-self g c =
    let i = c.self.inside in
    let qs = i.inner.queues.items in
    let q = c.index_mut.result.now in
    let low = subst (λ (l : Ledger). c.args.j < length l.queues) (sym c.self.view_is) c.requires.named in
    let q_at = at_read qs c.args.j q low c.index_mut.ensures.value in
    let q' = c.pop.new.queue in
    (c.self.invariant.0, c.self.invariant.1, c.self.invariant.2, subst (λ (n : ℕ). n ≤ 32) (sym (length-set qs c.args.j q')) c.self.invariant.3, few_set qs c.args.j q' (few_popped q q' c.pop.result c.pop.ensures (c.self.invariant.4 c.args.j q q_at)) c.self.invariant.4)

pub returns : goal.returns
returns g c =
    let i = c.self.inside in
    let qs = i.inner.queues.items in
    let q = c.index_mut.result.now in
    let low = subst (λ (l : Ledger). c.args.j < length l.queues) (sym c.self.view_is) c.requires.named in
    let q_at = at_read qs c.args.j q low c.index_mut.ensures.value in
    let q' = c.pop.new.queue in
    let old : Ledger = ledger (g.K.Keep.rows i.inner.keeper) (g.K.Keep.is_clean i.inner.keeper) (g.K.Keep.refused i.inner.keeper) i.inner.venue qs i.begun i.inner.count i.last in
    record { front = subst (λ (l : Ledger). IsFront c.args.j l (with_queue old c.args.j q') c.pop.result) c.self.view_is (front_by old c.args.j q q' c.pop.result q_at (c.self.invariant.4 c.args.j q q_at) c.pop.ensures) }
