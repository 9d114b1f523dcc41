use Rattle.venue_rules.proofs.NameLemmas.{symbol-IsText}
use Rattle.venue_rules.proofs.identifiers.symbol_of.Goals as goal

pub from_slice-requires : goal.from_slice-requires
from_slice-requires c = symbol-IsText c.as_slice.result.now c.as_slice.ensures.form
