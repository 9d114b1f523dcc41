use Rattle.client_ids.proofs.Ordered.{rising-behind}
use Rattle.client_ids.proofs.index.behind.Goals as goal

pub search-at-requires-clause-rising : goal.search-at-requires-clause-rising
search-at-requires-clause-rising c = rw c.hash_key.ensures (rising-behind c.args.names.now c.args.index.now c.args.name.now.who c.args.name.now.id c.requires)
