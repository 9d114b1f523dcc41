use Rattle.std.proofs.Common.{◌≡◌, ◌∙◌, ap, leb, List, true, if◌then◌else◌, rules, arith, length}
use Rattle.std.specs.List.{insert}
use Rattle.std.specs.Result.{is_ok}
use Rattle.std.proofs.lemmas.List.Sorted.{IsPartitionPoint-from_clause, IsPartitionedBy-leb}
use Rattle.venue_rules.specs.declared.facts.HeldSide.{HeldSide}
use Rattle.cross_delay.proofs.ByDue.{put-last-is, rises-far}
use Rattle.cross_delay.proofs.sides.hold.Goals as goal

pub returns-clause-sides : goal.returns-clause-sides
returns-clause-sides c =
    let h : HeldSide = c.args.side.now in
    let items : List HeldSide = c.args.sides.now.items in
    let ok : is_ok c.insert-inserted.result ≡ true = c.insert-inserted.ensures.succeeds c.requires.headroom in
    let parted = IsPartitionedBy-leb (λ (k : HeldSide). k.due) items h.due (rises-far 0 items c.requires.rising) in
    let point = IsPartitionPoint-from_clause (λ (k : HeldSide). leb k.due h.due) items c.partition_point-at.result (rw c.deref.ensures.value at c.partition_point-at.ensures.partitioned) parted (λ a r q k. search rules) in
    c.insert-inserted.ensures.items
    ∙ ap (λ b. if b then insert items c.partition_point-at.result h else items) ok
    ∙ put-last-is h items c.partition_point-at.result (omega (arith, c.partition_point-at.ensures.bound, ap length c.deref.ensures.value)) point
