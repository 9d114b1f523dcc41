use Rattle.price_book.specs.Live.{live}
use Rattle.price_book.proofs.Ranking.{are-ranked, sides-kept}
use Rattle.price_book.proofs.book.PriceBook.standing.Goals as goal

pub invariant_of-result-clause-ordered : goal.invariant_of-result-clause-ordered
invariant_of-result-clause-ordered c = rw c.deref.ensures.value c.self.invariant.step.ordered

pub invariant_of-result-clause-sides : goal.invariant_of-result-clause-sides
invariant_of-result-clause-sides c = rw c.deref.ensures.value c.self.invariant.step.side_queues

pub invariant_of-result-clause-kept : goal.invariant_of-result-clause-kept
invariant_of-result-clause-kept c = λ x side. sides-kept x side (live c.self.inside.past) c.self.inside.orders.stored_orders.entries c.self.invariant.step.listed.ledger c.self.invariant.step.listed.stored_orders

pub invariant_of-result-clause-ranked : goal.invariant_of-result-clause-ranked
invariant_of-result-clause-ranked c = λ x side. are-ranked x side (live c.self.inside.past) c.self.invariant.step.listed.ledger
