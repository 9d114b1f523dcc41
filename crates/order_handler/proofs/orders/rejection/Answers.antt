use Rattle.order_handler.proofs.orders.rejection.Goals as goal

pub returns-in-Refused-clause-answer : goal.returns-in-Refused-clause-answer
returns-in-Refused-clause-answer c = rw c.in-Refused.is c.refused.ensures.answer

pub returns-in-Duplicate-clause-answer : goal.returns-in-Duplicate-clause-answer
returns-in-Duplicate-clause-answer c = rw c.in-Duplicate.is c.refused_naming.ensures.answer
