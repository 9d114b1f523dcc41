use Rattle.std.proofs.Common.{◌≡◌, ◌∙◌, ap, refl, reverse, List, true, arith}
use Rattle.std.specs.Result.{is_ok}
use Rattle.price_book.specs.declared.side_queue.SideQueue.{SideQueue}
use Rattle.price_book.specs.SideIndex.{side_index, lower}
use Rattle.price_book.proofs.SideIndex.{lower-bound, held-opened, opened-there, ordered-insert}
use Rattle.price_book.proofs.sides.open.Goals as goal

pub insert-inserted-requires : goal.insert-inserted-requires
insert-inserted-requires c =
    let n = side_index c.args.instrument c.args.side in
    let at : c.lower-at.result ≡ lower n c.args.side_queues.now.items = c.lower-at.ensures ∙ ap (λ m. lower m c.deref.result.now) c.side_index.ensures ∙ ap (lower n) c.deref.ensures.value in
    omega (arith, at, lower-bound n c.args.side_queues.now.items, c.args.side_queues.now.ok)

pub returns-clause-ordered : goal.returns-clause-ordered
returns-clause-ordered c =
    let n = side_index c.args.instrument c.args.side in
    let items : List SideQueue = c.args.side_queues.now.items in
    let at : c.lower-at.result ≡ lower n items = c.lower-at.ensures ∙ ap (λ m. lower m c.deref.result.now) c.side_index.ensures ∙ ap (lower n) c.deref.ensures.value in
    let ok : is_ok c.insert-inserted.result ≡ true = c.insert-inserted.ensures.succeeds c.requires.headroom in
    rw (c.insert-inserted.ensures.items, ok, at) (ordered-insert 0 n items _ c.requires.ordered (omega arith) c.requires.lacks refl)

pub returns-clause-there : goal.returns-clause-there
returns-clause-there c =
    let n = side_index c.args.instrument c.args.side in
    let items : List SideQueue = c.args.side_queues.now.items in
    let at : c.lower-at.result ≡ lower n items = c.lower-at.ensures ∙ ap (λ m. lower m c.deref.result.now) c.side_index.ensures ∙ ap (lower n) c.deref.ensures.value in
    let ok : is_ok c.insert-inserted.result ≡ true = c.insert-inserted.ensures.succeeds c.requires.headroom in
    rw (c.insert-inserted.ensures.items, ok, at) (opened-there n items _ refl)

pub returns-clause-held : goal.returns-clause-held
returns-clause-held c =
    let n = side_index c.args.instrument c.args.side in
    let items : List SideQueue = c.args.side_queues.now.items in
    let at : c.lower-at.result ≡ lower n items = c.lower-at.ensures ∙ ap (λ m. lower m c.deref.result.now) c.side_index.ensures ∙ ap (lower n) c.deref.ensures.value in
    let ok : is_ok c.insert-inserted.result ≡ true = c.insert-inserted.ensures.succeeds c.requires.headroom in
    rw (c.insert-inserted.ensures.items, ok, at) (λ m. held-opened n items _ m c.requires.lacks refl (ap reverse c.requires.empty))
