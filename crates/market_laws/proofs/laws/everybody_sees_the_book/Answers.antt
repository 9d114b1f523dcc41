use Rattle.market_laws.proofs.Access.{everybody_sees_the_book}
use Rattle.market_laws.proofs.laws.everybody_sees_the_book.Goals as goal

pub returns : goal.returns
returns c = everybody_sees_the_book
