use Rattle.price_book.proofs.BookFacts.{live-book, resting-book}
use Rattle.price_book.proofs.laws.sides_are_read_alone.Goals as goal

pub returns-clause-live : goal.returns-clause-live
returns-clause-live c = live-book

pub returns-clause-sides : goal.returns-clause-sides
returns-clause-sides c = resting-book
