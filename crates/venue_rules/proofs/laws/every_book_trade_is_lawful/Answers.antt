use Rattle.venue_rules.proofs.EveryRun.{lawful}
use Rattle.venue_rules.proofs.Listed.{linked_wait_a_second}
use Rattle.venue_rules.proofs.laws.every_book_trade_is_lawful.Goals as goal

pub returns-clause-best_order : goal.returns-clause-best_order
returns-clause-best_order c = λ m is. (lawful m is).best_order_trades

pub returns-clause-linked_orders_wait : goal.returns-clause-linked_orders_wait
returns-clause-linked_orders_wait c = λ m is. (lawful m is).linked_orders_wait

pub returns-clause-a_second_apart : goal.returns-clause-a_second_apart
returns-clause-a_second_apart c = linked_wait_a_second

pub returns-clause-within_quantity : goal.returns-clause-within_quantity
returns-clause-within_quantity c = λ m is. (lawful m is).orders_trade_within
