use Rattle.venue_rules.proofs.AmountLemmas.{fills_within}
use Rattle.venue_rules.proofs.laws.fills_are_within.Goals as goal

pub returns : goal.returns
returns c = fills_within
