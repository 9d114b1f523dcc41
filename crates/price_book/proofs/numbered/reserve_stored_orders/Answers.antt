use Rattle.price_book.proofs.Numbers.{reordered}
use Rattle.price_book.proofs.numbered.reserve_stored_orders.Goals as goal

pub returns-clause-kept : goal.returns-clause-kept
returns-clause-kept c = λ rs kept. reordered rs c.args.stored_orders.now.entries c.reserve.new.self.entries c.reserve.ensures.entries.2 kept
