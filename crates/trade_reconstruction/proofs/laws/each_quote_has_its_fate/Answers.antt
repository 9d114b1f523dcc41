use Rattle.trade_reconstruction.proofs.Fates.{fates_are_right, live_quotes_are_live}
use Rattle.trade_reconstruction.proofs.laws.each_quote_has_its_fate.Goals as goal

pub returns-clause-right : goal.returns-clause-right
returns-clause-right c = fates_are_right

pub returns-clause-live : goal.returns-clause-live
returns-clause-live c = live_quotes_are_live
