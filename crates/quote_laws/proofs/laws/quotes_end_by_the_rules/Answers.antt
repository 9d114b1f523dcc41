use Rattle.quote_laws.proofs.Agreeing.{outcomes_agree}
use Rattle.quote_laws.proofs.laws.quotes_end_by_the_rules.Goals as goal

pub returns : goal.returns
returns c = outcomes_agree
