use Rattle.client_ids.proofs.Ordered.{rising-at}
use Rattle.client_ids.proofs.index.place.Goals as goal

pub search-place-requires-clause-rising : goal.search-place-requires-clause-rising
search-place-requires-clause-rising c = rw c.hash_key.ensures (rising-at c.args.names.now c.args.index.now c.args.who c.args.id.now c.requires)
