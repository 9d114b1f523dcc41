use Rattle.std.proofs.Common.{◌≡◌, refl, ap, List, length, arith}
use Rattle.std.specs.List.{remove}
use Rattle.price_book.specs.declared.side_queue.SideQueue.{SideQueue}
use Rattle.price_book.specs.Rows.{IsRow}
use Rattle.price_book.specs.SideIndex.{side_index, rows_in, held, Lacks, IsLadder}
use Rattle.price_book.proofs.SideIndex.{held-there, held-lacks, held-changed, ordered-changed}
use Rattle.price_book.proofs.sides.leave_side_queue.Goals as goal

pub take_out-requires-clause-ranked : goal.take_out-requires-clause-ranked
take_out-requires-clause-ranked c =
    let n = side_index c.args.instrument c.args.side in
    let ls : List SideQueue = c.args.side_queues.now.items in
    let there : IsLadder n ls c.in-Some.at = rw c.deref.ensures.value at c.in-Some.ensures in
    rw (held-there n ls c.in-Some.at c.index_mut.result.now c.requires.ordered there c.index_mut.ensures.value) at c.requires.ranked

pub take_out-requires-clause-there : goal.take_out-requires-clause-there
take_out-requires-clause-there c =
    let n = side_index c.args.instrument c.args.side in
    let ls : List SideQueue = c.args.side_queues.now.items in
    let there : IsLadder n ls c.in-Some.at = rw c.deref.ensures.value at c.in-Some.ensures in
    rw (held-there n ls c.in-Some.at c.index_mut.result.now c.requires.ordered there c.index_mut.ensures.value) at c.requires.there

pub returns-in-Some-clause-ordered : goal.returns-in-Some-clause-ordered
returns-in-Some-clause-ordered c =
    let ls : List SideQueue = c.args.side_queues.now.items in
    let there : IsLadder (side_index c.args.instrument c.args.side) ls c.in-Some.at = rw c.deref.ensures.value at c.in-Some.ensures in
    ordered-changed (side_index c.args.instrument c.args.side) ls c.in-Some.at c.index_mut.result.now _ c.requires.ordered there c.index_mut.ensures.value refl

pub returns-in-Some-clause-held : goal.returns-in-Some-clause-held
returns-in-Some-clause-held c = λ k m is.
    let n = side_index c.args.instrument c.args.side in
    let ls : List SideQueue = c.args.side_queues.now.items in
    let l : SideQueue = c.index_mut.result.now in
    let there : IsLadder n ls c.in-Some.at = rw c.deref.ensures.value at c.in-Some.ensures in
    let row : IsRow c.args.number c.args.price (rows_in l) k = rw (held-there n ls c.in-Some.at l c.requires.ordered there c.index_mut.ensures.value) at is in
    held-changed (λ rows. remove rows k) n ls c.in-Some.at l _ m c.requires.ordered there c.index_mut.ensures.value refl (c.take_out.ensures.rows k row)

pub returns-in_default-clause-held : goal.returns-in_default-clause-held
returns-in_default-clause-held c = λ k m is.
    let n = side_index c.args.instrument c.args.side in
    let ls : List SideQueue = c.args.side_queues.now.items in
    let none : Lacks n ls = rw c.deref.ensures.value at c.in_default.ensures in
    let empty : length (held n ls) ≡ 0 = ap length (held-lacks n ls none) in
    absurd (omega (arith, empty, is.inside))
