use Rattle.quote_laws.proofs.Living.{lives_agree}
use Rattle.quote_laws.proofs.laws.quotes_live_by_the_rules.Goals as goal

pub returns : goal.returns
returns c = lives_agree
