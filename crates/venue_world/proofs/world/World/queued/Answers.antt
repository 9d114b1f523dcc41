use Rattle.std.proofs.Common.{◌≡◌, ◌<◌, ℕ, List, length, sym, ap, subst, ◌∙◌, arith}
use Rattle.std.specs.Prelude.{slice_get, Some}
use Rattle.std.specs.VecDeque.{deque_len}
use Rattle.outbound_queue.specs.declared.queue.Queue.{Queue}
use Rattle.venue_world.specs.Seen.{Seen}
use Rattle.venue_world.specs.Side.{Side}
use Rattle.venue_world.specs.Slots.{sides_of}
use Rattle.venue_world.proofs.Places.{below_at, length-sides, parts_at, read_at}
use Rattle.venue_world.proofs.world.World.queued.Goals as goal

pub returns : goal.returns
returns g c = λ s s_at.
    let l = c.self.inside.engine in
    let slots = c.self.inside.slots.items in
    let queues = c.queues.result.now in
    let is = c.place-place.ensures in
    let i = c.place-place.result in
    let p = parts_at slots l.queues i s (subst (λ (n : ℕ). slice_get (sides_of slots l.queues) n ≡ Some s) (sym is) (ap (λ (o : Seen). slice_get o.sides c.args.who) c.self.view_is ∙ s_at)) in
    let q_at : slice_get queues i ≡ Some p.1 = ap (λ (qs : List Queue). slice_get qs i) c.queues.ensures.queues ∙ p.3 in
    let found = c.index-queues-place.result in
    let f_at = read_at queues i found (below_at queues i p.1 q_at) c.index-queues-place.is in
    let same : found ≡ p.1 = cc in
    let n = c.len.ensures in
    let ok = found.waiting.ok.0 in
    let read = ap (λ (q : Queue). deque_len q.waiting) c.index-queues-place.is in
    let here : c.len.result ≡ length found.waiting.items = omega (arith, n, ok, read) in
    here ∙ ap (λ (q : Queue). length q.waiting.items) same ∙ ap (λ (z : Side). length z.queue) (sym p.4)

pub bounds-queues-place : goal.bounds-queues-place
bounds-queues-place g c =
    let inv = c.self.invariant in
    let slots = c.self.inside.slots.items in
    let long = length-sides slots c.self.inside.engine.queues inv.0 in
    let seen_long = ap (λ (o : Seen). length o.sides) c.self.view_is in
    let is = c.place-place.ensures in
    let qs = ap (λ (l : List Queue). length l) c.queues.ensures.queues in
    omega (arith, c.requires, seen_long, long, is, inv.0, qs)
