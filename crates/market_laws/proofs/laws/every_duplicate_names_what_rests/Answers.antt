use Rattle.market_laws.proofs.Duplicates.{cross_duplicates, duplicates}
use Rattle.market_laws.proofs.laws.every_duplicate_names_what_rests.Goals as goal

pub returns-clause-orders : goal.returns-clause-orders
returns-clause-orders c = duplicates

pub returns-clause-crosses : goal.returns-clause-crosses
returns-clause-crosses c = cross_duplicates
