use Rattle.venue_rules.proofs.AmountLemmas.{printed_identifiers}
use Rattle.venue_rules.proofs.laws.printed_numbers_are_identifiers.Goals as goal

pub returns : goal.returns
returns c = printed_identifiers
