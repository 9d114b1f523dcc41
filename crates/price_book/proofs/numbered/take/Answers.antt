use Rattle.price_book.proofs.Numbers.{forget-numbered}
use Rattle.price_book.proofs.numbered.take.Goals as goal

pub returns-clause-stored_orders : goal.returns-clause-stored_orders
returns-clause-stored_orders c = λ rs ledger kept. forget-numbered c.args.number rs c.args.stored_orders.now.entries c.remove.new.self.entries ledger c.remove.ensures.updates.0 kept
