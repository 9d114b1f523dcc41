use Rattle.std.proofs.Common.{◌<◌, ◌≤◌, ◌+◌, ℕ, length, arith, ap, sym, ◌∙◌}
use Rattle.std.specs.VecDeque.{deque_len, deque_capacity}
use Rattle.venue_engine.specs.Outbox.{all_waits}
use Rattle.venue_engine.specs.Outbox.{at, emitted}
use Rattle.venue_engine.proofs.Queues.{length-ws, past_end, capacity_fewer, capacities_set, written}
use Rattle.venue_engine.proofs.outbox.append_at.Goals as goal

pub returns-then-place-len-clause-emitted : goal.returns-then-place-len-clause-emitted
returns-then-place-len-clause-emitted c =
    let ds = c.args.queues.now.items in
    let i = c.place-place.result in
    let low : i < length ds = omega (arith, c.if-place-len.true, c.len.ensures, c.args.queues.now.ok.0) in
    written ds i (emitted c.args.message.app) c.index_mut.result.now c.append.new.queue low c.index_mut.ensures.value c.append.ensures.emitted
    ∙ ap (λ (n : ℕ). at n (emitted c.args.message.app) (all_waits ds)) c.place-place.ensures

pub returns-then-place-len-clause-kept : goal.returns-then-place-len-clause-kept
returns-then-place-len-clause-kept c = λ more places capacities.
    let ds = c.args.queues.now.items in
    let i = c.place-place.result in
    let d = c.index_mut.result.now in
    let d' = c.append.new.queue in
    let low : i < length ds = omega (arith, c.if-place-len.true, c.len.ensures, c.args.queues.now.ok.0) in
    let less : more ≤ more + 1 = omega arith in
    let fits : deque_len d.waiting + (more + 1) ≤ deque_capacity d.waiting → deque_len d'.waiting + more ≤ deque_capacity d'.waiting =
    (λ capacity. omega (arith, capacity, c.append.ensures.len, c.append.ensures.capacity)) in
    capacities_set places ds i more (more + 1) d d' low c.index_mut.ensures.value less fits capacities

pub returns-else-place-len-clause-emitted : goal.returns-else-place-len-clause-emitted
returns-else-place-len-clause-emitted c =
    let ds = c.args.queues.now.items in
    let high : length (all_waits ds) ≤ c.args.message.to = omega (arith, c.if-place-len.false, c.len.ensures, c.args.queues.now.ok.0, c.place-place.ensures, length-ws ds) in
    sym (past_end (all_waits ds) c.args.message.to (emitted c.args.message.app) high)

pub returns-else-place-len-clause-kept : goal.returns-else-place-len-clause-kept
returns-else-place-len-clause-kept c = λ more places capacities. (let less : more ≤ more + 1 = omega arith in capacity_fewer places c.args.queues.now.items more (more + 1) less capacities)
