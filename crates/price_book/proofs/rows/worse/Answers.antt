use Rattle.std.proofs.Common.{◌≡◌, ◌≤◌, reverse, sym, true, false, length, rules}
use Rattle.std.specs.List.Sorted.{IsPartitionedBy, IsPartitionPoint}
use Rattle.std.proofs.lemmas.List.Sorted.{IsPartitionPoint-from_clause}
use Rattle.venue_rules.specs.Book.{is_better}
use Rattle.price_book.specs.declared.row.Priority.{Priority}
use Rattle.price_book.specs.Rows.{AreRanked}
use Rattle.price_book.specs.Ranks.{rows_with}
use Rattle.price_book.proofs.Pairing.{worse-found}
use Rattle.price_book.proofs.rows.worse.Goals as goal

pub returns : goal.returns
returns c =
    let ps = c.rows.inside.priorities.items in
    let ls = c.rows.inside.left.items in
    let better = λ (o : Priority). is_better c.args.side c.args.price o.price in
    let found : IsPartitionedBy better ps → IsPartitionPoint (λ o. better o ≡ true) (λ o. better o ≡ false) ps c.partition_point.result = λ parted. rw c.deref.ensures.value at (IsPartitionPoint-from_clause better _ _ c.partition_point.ensures.partitioned (rw (sym c.deref.ensures.value) at parted) (λ a r q k. search rules)) in
    let bound : c.partition_point.result ≤ length ps = rw c.deref.ensures.value at c.partition_point.ensures.bound in
    let ranked : AreRanked c.args.side (reverse (rows_with ps ls)) = rw (← c.rows.view_is) at c.requires in
    rw (← c.rows.view_is) (worse-found c.args.side c.args.price ps ls c.partition_point.result c.rows.invariant ranked bound found)
