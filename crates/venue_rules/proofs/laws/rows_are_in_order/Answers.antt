use Rattle.venue_rules.proofs.RowLemmas.{rows_in_order}
use Rattle.venue_rules.proofs.laws.rows_are_in_order.Goals as goal

pub returns : goal.returns
returns c = rows_in_order
