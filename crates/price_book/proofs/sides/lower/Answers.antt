use Rattle.std.proofs.Common.{◌≡◌, ◌≤◌, ◌<◌, ◌+◌, ◌-◌, ◌/◌, ℕ, List, length, get_or, sym, ap, ◌∙◌, arith}
use Rattle.std.proofs.lemmas.List.{get_or_default}
use Rattle.price_book.specs.declared.side_queue.SideQueue.{SideQueue}
use Rattle.price_book.specs.SideIndex.{rung_of}
use Rattle.price_book.proofs.SideIndex.{rungs-rise, lower-is}
use Rattle.price_book.proofs.sides.lower.Goals as goal

pub loop-low-preserved-then-side_index-wanted : goal.loop-low-preserved-then-side_index-wanted
loop-low-preserved-then-side_index-wanted c =
    let ls : List SideQueue = c.args.side_queues.now in
    let middle : ℕ = c.loop-low.low + (c.loop-low.high - c.loop-low.low) / 2 in
    let l : SideQueue = c.index-side_queues-middle.result in
    let inside : middle < length ls = omega (arith, c.loop-low-test.true, c.loop-low.invariant.1) in
    let less : rung_of l < c.args.wanted = omega (arith, c.if-side_index-wanted.true, c.side_index.ensures) in (
      omega (arith, c.loop-low-test.true),
      c.loop-low.invariant.1,
      (λ k d h. let up : rung_of (get_or ls k d) ≤ rung_of (get_or ls middle d) = rungs-rise 0 ls k middle d c.requires (omega (arith, h)) inside in let same : rung_of (get_or ls middle d) ≡ rung_of l = ap rung_of (get_or_default ls middle d l inside ∙ sym c.index-side_queues-middle.is) in omega (arith, up, same, less)),
      c.loop-low.invariant.3,
    )

pub loop-low-preserved : goal.loop-low-preserved
loop-low-preserved c =
    let ls : List SideQueue = c.args.side_queues.now in
    let middle : ℕ = c.loop-low.low + (c.loop-low.high - c.loop-low.low) / 2 in
    let l : SideQueue = c.index-side_queues-middle.result in
    let inside : middle < length ls = omega (arith, c.loop-low-test.true, c.loop-low.invariant.1) in
    let more : c.args.wanted ≤ rung_of l = omega (arith, c.if-side_index-wanted.false, c.side_index.ensures) in (
      omega (arith, c.loop-low-test.true),
      omega (arith, inside),
      c.loop-low.invariant.2,
      (λ k d h j. let up : rung_of (get_or ls middle d) ≤ rung_of (get_or ls k d) = rungs-rise 0 ls middle k d c.requires h j in let same : rung_of (get_or ls middle d) ≡ rung_of l = ap rung_of (get_or_default ls middle d l inside ∙ sym c.index-side_queues-middle.is) in omega (arith, up, same, more)),
    )

pub returns : goal.returns
returns c = sym (lower-is c.args.wanted c.args.side_queues.now c.loop-low.low (omega (arith, c.loop-low.invariant.0, c.loop-low.invariant.1)) c.loop-low.invariant.2 (λ d j. c.loop-low.invariant.3 c.loop-low.low d (omega (arith, c.loop-low-test.false)) j))
