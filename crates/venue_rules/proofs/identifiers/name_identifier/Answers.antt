use Rattle.venue_rules.proofs.NameLemmas.{name-IsText}
use Rattle.venue_rules.proofs.identifiers.name_identifier.Goals as goal

pub from_slice-requires : goal.from_slice-requires
from_slice-requires c = name-IsText c.args.name.now c.requires
