use Rattle.venue_rules.proofs.AmountLemmas.{amounts_within}
use Rattle.venue_rules.proofs.laws.amounts_stay_within.Goals as goal

pub returns : goal.returns
returns c = amounts_within
