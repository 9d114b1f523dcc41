use Rattle.std.proofs.Common.{◌≡◌, ◌∙◌, ap, sym, refl, List, length, ◌==◌, if◌then◌else◌, arith}
use Rattle.std.proofs.lemmas.List.{length-reverse}
use Rattle.price_book.specs.declared.side_queue.SideQueue.{SideQueue}
use Rattle.price_book.specs.declared.row.Row.{Row}
use Rattle.price_book.specs.Rows.{put_last}
use Rattle.price_book.specs.SideIndex.{side_index, rows_in, held, IsLadder}
use Rattle.price_book.proofs.SideIndex.{held-there, held-changed, ordered-changed}
use Rattle.price_book.proofs.sides.enter_side_queue.Goals as goal

pub put_last-requires-clause-headroom : goal.put_last-requires-clause-headroom
put_last-requires-clause-headroom c =
    let ls : List SideQueue = c.args.side_queues.now.items in
    let l : SideQueue = c.index_mut.result.now in
    let there : IsLadder (side_index c.args.instrument c.args.side) ls c.in-Some.at = rw c.deref.ensures.value at c.in-Some.ensures in
    omega (arith, ap length (held-there (side_index c.args.instrument c.args.side) ls c.in-Some.at l c.requires.ordered there c.index_mut.ensures.value), c.requires.places, l.headroom, length-reverse l.rows.items)

pub put_last-requires-clause-ranked : goal.put_last-requires-clause-ranked
put_last-requires-clause-ranked c =
    let ls : List SideQueue = c.args.side_queues.now.items in
    let l : SideQueue = c.index_mut.result.now in
    let there : IsLadder (side_index c.args.instrument c.args.side) ls c.in-Some.at = rw c.deref.ensures.value at c.in-Some.ensures in
    rw (held-there (side_index c.args.instrument c.args.side) ls c.in-Some.at l c.requires.ordered there c.index_mut.ensures.value) at c.requires.ranked

pub returns-in-Some-clause-ordered : goal.returns-in-Some-clause-ordered
returns-in-Some-clause-ordered c =
    let ls : List SideQueue = c.args.side_queues.now.items in
    let there : IsLadder (side_index c.args.instrument c.args.side) ls c.in-Some.at = rw c.deref.ensures.value at c.in-Some.ensures in
    ordered-changed (side_index c.args.instrument c.args.side) ls c.in-Some.at c.index_mut.result.now _ c.requires.ordered there c.index_mut.ensures.value refl

pub returns-in-Some-clause-held : goal.returns-in-Some-clause-held
returns-in-Some-clause-held c =
    let ls : List SideQueue = c.args.side_queues.now.items in
    let there : IsLadder (side_index c.args.instrument c.args.side) ls c.in-Some.at = rw c.deref.ensures.value at c.in-Some.ensures in
    λ m. held-changed (put_last c.args.side c.args.row) (side_index c.args.instrument c.args.side) ls c.in-Some.at c.index_mut.result.now _ m c.requires.ordered there c.index_mut.ensures.value refl c.put_last.ensures.rows

pub put_last-requires-2-clause-headroom : goal.put_last-requires-2-clause-headroom
put_last-requires-2-clause-headroom c =
    let n = side_index c.args.instrument c.args.side in
    let l : SideQueue = c.index_mut-2.result.now in
    let held-is = held-there n c.open-at.new.side_queues.items c.open-at.result l c.open-at.ensures.ordered c.open-at.ensures.there c.index_mut-2.ensures.value in
    omega (arith, ap length (sym (c.open-at.ensures.held n) ∙ held-is), c.requires.places, l.headroom, length-reverse l.rows.items)

pub put_last-requires-2-clause-ranked : goal.put_last-requires-2-clause-ranked
put_last-requires-2-clause-ranked c =
    let n = side_index c.args.instrument c.args.side in
    let l : SideQueue = c.index_mut-2.result.now in
    let held-is : held n c.args.side_queues.now.items ≡ rows_in l = sym (c.open-at.ensures.held n) ∙ held-there n c.open-at.new.side_queues.items c.open-at.result l c.open-at.ensures.ordered c.open-at.ensures.there c.index_mut-2.ensures.value in
    rw held-is at c.requires.ranked

pub returns-clause-ordered : goal.returns-clause-ordered
returns-clause-ordered c =
    ordered-changed (side_index c.args.instrument c.args.side) c.open-at.new.side_queues.items c.open-at.result c.index_mut-2.result.now _ c.open-at.ensures.ordered c.open-at.ensures.there c.index_mut-2.ensures.value refl

pub returns-clause-held : goal.returns-clause-held
returns-clause-held c =
    let n = side_index c.args.instrument c.args.side in
    let f : List Row → List Row = put_last c.args.side c.args.row in
    λ m. held-changed f n c.open-at.new.side_queues.items c.open-at.result c.index_mut-2.result.now _ m c.open-at.ensures.ordered c.open-at.ensures.there c.index_mut-2.ensures.value refl c.put_last-2.ensures.rows
    ∙ ap (λ xs. if m == n then f xs else xs) (c.open-at.ensures.held m)
