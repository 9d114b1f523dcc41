use Rattle.std.proofs.Common.{◌≡◌, ◌≤◌, not, sym, length, reverse, true, false, rules, arith}
use Rattle.std.specs.List.Sorted.{IsPartitionedBy, IsPartitionPoint}
use Rattle.std.proofs.lemmas.List.{length-reverse}
use Rattle.std.proofs.lemmas.List.Sorted.{IsPartitionPoint-from_clause}
use Rattle.price_book.specs.declared.row.Priority.{Priority}
use Rattle.price_book.specs.Rows.{ranks_before, AreRanked, IsRow}
use Rattle.price_book.specs.Ranks.{rows_with}
use Rattle.price_book.proofs.Pairing.{place-found}
use Rattle.price_book.proofs.rows.place_of.Goals as goal

pub overflow_sub-result : goal.overflow_sub-result
overflow_sub-result c =
    let ps = c.rows.inside.priorities.items in
    let ls = c.rows.inside.left.items in
    let later = λ (o : Priority). not (ranks_before c.args.side c.args.price c.args.number o) in
    let found : IsPartitionedBy later ps → IsPartitionPoint (λ o. later o ≡ true) (λ o. later o ≡ false) ps c.partition_point-count.result = λ parted. rw c.deref.ensures.value at (IsPartitionPoint-from_clause later _ _ c.partition_point-count.ensures.partitioned (rw (sym c.deref.ensures.value) at parted) (λ a r q k. search rules)) in
    let bound : c.partition_point-count.result ≤ length ps = rw c.deref.ensures.value at c.partition_point-count.ensures.bound in
    let ranked : AreRanked c.args.side (reverse (rows_with ps ls)) = rw (← c.rows.view_is) at c.requires.ranked in
    let is : IsRow c.args.number c.args.price (reverse (rows_with ps ls)) c.requires.there.0 = rw (← c.rows.view_is) at c.requires.there.1 in
    let at = place-found c.args.side c.args.price c.args.number ps ls c.partition_point-count.result c.requires.there.0 c.rows.invariant ranked is bound found in
    omega (arith, at, is.inside, length-reverse (rows_with ps ls))

pub returns : goal.returns
returns c =
    let ps = c.rows.inside.priorities.items in
    let ls = c.rows.inside.left.items in
    let later = λ (o : Priority). not (ranks_before c.args.side c.args.price c.args.number o) in
    let found : IsPartitionedBy later ps → IsPartitionPoint (λ o. later o ≡ true) (λ o. later o ≡ false) ps c.partition_point-count.result = λ parted. rw c.deref.ensures.value at (IsPartitionPoint-from_clause later _ _ c.partition_point-count.ensures.partitioned (rw (sym c.deref.ensures.value) at parted) (λ a r q k. search rules)) in
    let bound : c.partition_point-count.result ≤ length ps = rw c.deref.ensures.value at c.partition_point-count.ensures.bound in
    let ranked : AreRanked c.args.side (reverse (rows_with ps ls)) = rw (← c.rows.view_is) at c.requires.ranked in
    rw (← c.rows.view_is) (λ k is.
    let at = place-found c.args.side c.args.price c.args.number ps ls c.partition_point-count.result k c.rows.invariant ranked is bound found in
    omega (arith, at, is.inside, length-reverse (rows_with ps ls)))
