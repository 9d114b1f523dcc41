use Rattle.std.proofs.Common.{◌∙◌, ap, sym, ltb, option_map, List, rules}
use Rattle.std.proofs.lemmas.List.Sorted.{IsPartitionPoint-from_clause, IsPartitionedBy-ltb}
use Rattle.venue_rules.specs.declared.trail.RoomFact.{RoomFact}
use Rattle.trade_history.specs.ByNumber.{with_number}
use Rattle.trade_history.proofs.ByNumber.{found-at, got, rises-far}
use Rattle.trade_history.proofs.quoted.find.Goals as goal

pub returns-in_default : goal.returns-in_default
returns-in_default c =
    let items : List RoomFact = c.args.rooms.now in
    let n = c.args.number in
    let parted = IsPartitionedBy-ltb (λ (k : RoomFact). k.number) items n (rises-far 0 items c.requires) in
    let point = IsPartitionPoint-from_clause (λ (k : RoomFact). ltb k.number n) items c.partition_point-at.result c.partition_point-at.ensures.partitioned parted (λ a r q k. search rules) in
    sym (found-at n 0 items c.partition_point-at.result c.requires point ∙ ap (with_number n) (sym (got items c.partition_point-at.result c.get.result c.get.ensures.lookup) ∙ ap (option_map (λ x. x.now)) c.in_default.is))

pub returns : goal.returns
returns c =
    let items : List RoomFact = c.args.rooms.now in
    let n = c.args.number in
    let parted = IsPartitionedBy-ltb (λ (k : RoomFact). k.number) items n (rises-far 0 items c.requires) in
    let point = IsPartitionPoint-from_clause (λ (k : RoomFact). ltb k.number n) items c.partition_point-at.result c.partition_point-at.ensures.partitioned parted (λ a r q k. search rules) in
    c.with_number.ensures ∙ sym (found-at n 0 items c.partition_point-at.result c.requires point ∙ ap (with_number n) (sym (got items c.partition_point-at.result c.get.result c.get.ensures.lookup) ∙ ap (option_map (λ x. x.now)) c.in-Some.is))
