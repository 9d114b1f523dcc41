use Rattle.std.proofs.Common.{◌≡◌, ◌∙◌, ap, sym, List, get_or, arith}
use Rattle.std.proofs.lemmas.List.{get_or_default}
use Rattle.price_book.specs.declared.side_queue.SideQueue.{SideQueue}
use Rattle.price_book.specs.SideIndex.{side_index, rung_of, lower}
use Rattle.price_book.proofs.SideIndex.{lacks-there}
use Rattle.price_book.proofs.sides.find_side_queue.Goals as goal

pub returns-else-side_index-wanted : goal.returns-else-side_index-wanted
returns-else-side_index-wanted c =
    let ls : List SideQueue = c.args.side_queues.now in
    let n = side_index c.args.instrument c.args.side in
    let at : c.lower-at.result ≡ lower n ls = c.lower-at.ensures ∙ ap (λ m. lower m ls) c.side_index-wanted.ensures in
    lacks-there 0 n ls c.requires (λ d j e.
    let here : rung_of c.index-side_queues-at.result ≡ rung_of (get_or ls (lower n ls) d) = ap rung_of (c.index-side_queues-at.is ∙ get_or_default ls c.lower-at.result c.index-side_queues-at.result d (omega (arith, at, j))) ∙ ap (λ k. rung_of (get_or ls k d)) at in
    c.if-side_index-wanted.false (c.side_index.ensures ∙ here ∙ e ∙ sym c.side_index-wanted.ensures))

pub returns-else-at-side_queues : goal.returns-else-at-side_queues
returns-else-at-side_queues c =
    let ls : List SideQueue = c.args.side_queues.now in
    let n = side_index c.args.instrument c.args.side in
    let at : c.lower-at.result ≡ lower n ls = c.lower-at.ensures ∙ ap (λ m. lower m ls) c.side_index-wanted.ensures in
    lacks-there 0 n ls c.requires (λ d j e. absurd (omega (arith, c.if-at-side_queues.false, at, j)))
