use Rattle.std.proofs.Common.{◌≡◌, ◌≤◌, ◌<◌, ℕ, length, length-set, refl, sym, subst}
use Rattle.std.specs.Prelude.{slice_get, Some}
use Rattle.outbound_queue.specs.declared.queue.Queue.{Queue}
use Rattle.venue_engine.specs.Ledger.{Ledger, ledger}
use Rattle.venue_engine.specs.Step.{IsPutBack, with_queue}
use Rattle.venue_engine.proofs.Few.{few_put, few_set}
use Rattle.venue_engine.proofs.Lists.{at_read}
use Rattle.venue_engine.specs.Queued.{HasPlace}
use Rattle.venue_engine.proofs.engine.Engine.put_front.Goals as goal

pub push-requires : goal.push-requires
push-requires g c =
    let i = c.self.inside in
    let qs = i.inner.queues.items in
    let q = c.index_mut.result.now in
    let low = subst (λ (l : Ledger). c.args.j < length l.queues) (sym c.self.view_is) c.requires.named in
    let q_at = at_read qs c.args.j q low c.index_mut.ensures.value in
    let place = subst (λ (l : Ledger). (z : Queue) → slice_get l.queues c.args.j ≡ Some z → HasPlace z) (sym c.self.view_is) c.requires.place in
    (place q q_at).0

pub invariant_of-self : goal.invariant_of-self
invariant_of-self g c =
    let i = c.self.inside in
    let qs = i.inner.queues.items in
    let q = c.index_mut.result.now in
    let low = subst (λ (l : Ledger). c.args.j < length l.queues) (sym c.self.view_is) c.requires.named in
    let q_at = at_read qs c.args.j q low c.index_mut.ensures.value in
    let place = subst (λ (l : Ledger). (z : Queue) → slice_get l.queues c.args.j ≡ Some z → HasPlace z) (sym c.self.view_is) c.requires.place in
    let q' = c.push.new.queue in
    (c.self.invariant.0, c.self.invariant.1, c.self.invariant.2, subst (λ (n : ℕ). n ≤ 32) (sym (length-set qs c.args.j q')) c.self.invariant.3, few_set qs c.args.j q' (few_put q q' c.args.front c.push.ensures.0 (place q q_at).1) c.self.invariant.4)

pub returns : goal.returns
returns g c =
    let i = c.self.inside in
    let qs = i.inner.queues.items in
    let q = c.index_mut.result.now in
    let low = subst (λ (l : Ledger). c.args.j < length l.queues) (sym c.self.view_is) c.requires.named in
    let q_at = at_read qs c.args.j q low c.index_mut.ensures.value in
    let q' = c.push.new.queue in
    let old : Ledger = ledger (g.K.Keep.rows i.inner.keeper) (g.K.Keep.is_clean i.inner.keeper) (g.K.Keep.refused i.inner.keeper) i.inner.venue qs i.begun i.inner.count i.last in
    record { back = subst (λ (l : Ledger). IsPutBack c.args.j c.args.front l (with_queue old c.args.j q')) c.self.view_is (q, q', q_at, refl, c.push.ensures.0, c.push.ensures.1) }
