use Rattle.price_book.proofs.Names.{behind-rising}
use Rattle.price_book.proofs.named.behind.Goals as goal

pub search-at-requires-clause-rising : goal.search-at-requires-clause-rising
search-at-requires-clause-rising c = rw c.requires.hash_key (behind-rising c.requires.listed.0 c.args.stored_orders.now.entries c.args.keys.now c.args.who c.args.id.now c.requires.listed.1)
