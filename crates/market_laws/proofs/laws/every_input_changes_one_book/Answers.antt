use Rattle.market_laws.proofs.OneBookEach.{one_book_changes}
use Rattle.market_laws.proofs.laws.every_input_changes_one_book.Goals as goal

pub returns : goal.returns
returns c = one_book_changes
