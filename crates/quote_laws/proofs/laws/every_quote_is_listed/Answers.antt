use Rattle.quote_laws.proofs.Listing.{quotes_listed}
use Rattle.quote_laws.proofs.laws.every_quote_is_listed.Goals as goal

pub returns : goal.returns
returns c = quotes_listed
