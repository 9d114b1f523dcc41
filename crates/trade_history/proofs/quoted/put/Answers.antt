use Rattle.std.proofs.Common.{◌≡◌, ◌∙◌, ap, leb, List, true, if◌then◌else◌, rules, arith, length}
use Rattle.std.specs.List.{insert}
use Rattle.std.specs.Result.{is_ok}
use Rattle.std.proofs.lemmas.List.Sorted.{IsPartitionPoint-from_clause, IsPartitionedBy-leb}
use Rattle.venue_rules.specs.declared.trail.RoomFact.{RoomFact}
use Rattle.trade_history.proofs.ByNumber.{put-is, rises-far}
use Rattle.trade_history.proofs.quoted.put.Goals as goal

pub returns : goal.returns
returns c =
    let f : RoomFact = c.args.fact in
    let items : List RoomFact = c.args.read.now.items in
    let ok : is_ok c.insert-inserted.result ≡ true = c.insert-inserted.ensures.succeeds c.requires.room in
    let parted = IsPartitionedBy-leb (λ (k : RoomFact). k.number) items f.number (rises-far 0 items c.requires.rising) in
    let point = IsPartitionPoint-from_clause (λ (k : RoomFact). leb k.number f.number) items c.partition_point-at.result (rw c.deref.ensures.value at c.partition_point-at.ensures.partitioned) parted (λ a r q k. search rules) in
    c.insert-inserted.ensures.items
    ∙ ap (λ b. if b then insert items c.partition_point-at.result f else items) ok
    ∙ put-is f items c.partition_point-at.result (omega (arith, c.partition_point-at.ensures.bound, ap length c.deref.ensures.value)) point
