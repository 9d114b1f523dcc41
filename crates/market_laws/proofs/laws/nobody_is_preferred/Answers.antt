use Rattle.market_laws.proofs.Renamed.{nobody_is_preferred}
use Rattle.market_laws.proofs.laws.nobody_is_preferred.Goals as goal

pub returns : goal.returns
returns c = nobody_is_preferred
