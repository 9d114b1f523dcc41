use Rattle.std.proofs.Common.{◌<◌, ◌≤◌, ℕ, length, set, arith, subst, ◌∙◌}
use Rattle.std.specs.Prelude.{slice_get}
use Rattle.venue_engine.specs.Outbox.{HasCapacity, all_waits}
use Rattle.venue_engine.proofs.Queues.{at_same, none_there, capacity_written, capacities_set, written}
use Rattle.venue_engine.proofs.outbox.reserve_at.Goals as goal

pub returns-in_err-reserve_in-clause-same : goal.returns-in_err-reserve_in-clause-same
returns-in_err-reserve_in-clause-same c =
    let ds = c.args.queues.now.items in
    let i = c.place-place.result in
    let low : i < length ds = omega (arith, c.if-place-len.true, c.len.ensures, c.args.queues.now.ok.0) in
    written ds i (λ s. s) c.index_mut.result.now c.reserve_in.new.queue low c.index_mut.ensures.value c.in_err-reserve_in.ensures.same ∙ at_same (all_waits ds) i

pub returns-in_ok-reserve_in-clause-same : goal.returns-in_ok-reserve_in-clause-same
returns-in_ok-reserve_in-clause-same c =
    let ds = c.args.queues.now.items in
    let i = c.place-place.result in
    let low : i < length ds = omega (arith, c.if-place-len.true, c.len.ensures, c.args.queues.now.ok.0) in
    written ds i (λ s. s) c.index_mut.result.now c.reserve_in.new.queue low c.index_mut.ensures.value c.in_ok-reserve_in.ensures.same ∙ at_same (all_waits ds) i

pub returns-in_ok-reserve_in-clause-capacity : goal.returns-in_ok-reserve_in-clause-capacity
returns-in_ok-reserve_in-clause-capacity c =
    let ds = c.args.queues.now.items in
    let i = c.place-place.result in
    let low : i < length ds = omega (arith, c.if-place-len.true, c.len.ensures, c.args.queues.now.ok.0) in
    subst (λ (n : ℕ). HasCapacity c.args.more (slice_get (set ds i c.reserve_in.new.queue) n)) c.place-place.ensures (capacity_written ds i c.args.more c.reserve_in.new.queue low c.in_ok-reserve_in.ensures.capacity)

pub returns-in_ok-reserve_in-clause-kept : goal.returns-in_ok-reserve_in-clause-kept
returns-in_ok-reserve_in-clause-kept c = λ places capacities.
    let ds = c.args.queues.now.items in
    let i = c.place-place.result in
    let low : i < length ds = omega (arith, c.if-place-len.true, c.len.ensures, c.args.queues.now.ok.0) in
    let more : c.args.more ≤ c.args.more = omega arith in
    capacities_set places ds i c.args.more c.args.more c.index_mut.result.now c.reserve_in.new.queue low c.index_mut.ensures.value more (λ _. c.in_ok-reserve_in.ensures.capacity) capacities

pub returns-else-place-len-clause-capacity : goal.returns-else-place-len-clause-capacity
returns-else-place-len-clause-capacity c =
    let ds = c.args.queues.now.items in
    let high : length ds ≤ c.args.to = omega (arith, c.if-place-len.false, c.len.ensures, c.args.queues.now.ok.0, c.place-place.ensures) in
    none_there ds c.args.to c.args.more high
