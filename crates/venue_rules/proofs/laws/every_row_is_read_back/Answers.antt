use Rattle.venue_rules.proofs.RowLemmas.{rows_read_back}
use Rattle.venue_rules.proofs.laws.every_row_is_read_back.Goals as goal

pub returns : goal.returns
returns c = rows_read_back
