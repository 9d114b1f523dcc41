use Rattle.trade_reconstruction.proofs.Quoting.{quotes_are_reported}
use Rattle.trade_reconstruction.proofs.laws.each_quote_is_reported.Goals as goal

pub returns : goal.returns
returns c = quotes_are_reported
