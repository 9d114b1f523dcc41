use Rattle.std.proofs.Common.{nat_lt, rules, arith}
use Rattle.std.proofs.lemmas.Bool.Decides.{nat_tests}
use Rattle.std.proofs.lemmas.List.Sorted.{IsPartitionPoint-from_clause}
use Rattle.price_book.specs.declared.id_key.IdKey.{IdKey}
use Rattle.price_book.specs.Numbered.{no_key}
use Rattle.price_book.proofs.Names.{parted-hash_keys}
use Rattle.price_book.proofs.named.lesser.Goals as goal

pub returns-clause-lesser : goal.returns-clause-lesser
returns-clause-lesser c = λ k h.
    let point = IsPartitionPoint-from_clause (λ (key : IdKey). nat_lt key.hash_key c.args.hash_key) _ _ c.partition_point.ensures.partitioned (parted-hash_keys c.args.hash_key c.args.keys.now c.requires) (λ a r q k. search rules) in
    let below = point.0 k no_key (omega arith) h in
    grind (arith, nat_tests)
