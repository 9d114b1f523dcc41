use Rattle.price_book.proofs.SideQueues.{entry-ranks, trade-ranks, removal-ranks}
use Rattle.price_book.proofs.laws.side_queues_follow.Goals as goal

pub returns : goal.returns
returns c = record { entry = entry-ranks; trade = trade-ranks; removal = removal-ranks }
