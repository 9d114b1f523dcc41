use Rattle.std.proofs.Common.{◌≤◌, rules, arith}
use Rattle.price_book.proofs.Names.{listed-rising}
use Rattle.price_book.proofs.named.place.Goals as goal

pub search-place-requires-clause-rising : goal.search-place-requires-clause-rising
search-place-requires-clause-rising c = rw c.hash_key.ensures (listed-rising c.requires.0 c.args.stored_orders.now.entries c.args.keys.now c.args.who c.args.id.now c.requires.1)

pub overflow_cast-result : goal.overflow_cast-result
overflow_cast-result c = let few : c.search-place.new.probe.count ≤ 64 = c.search-place.ensures.few 64 (search rules) in omega (arith, few)
