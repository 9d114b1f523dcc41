use Rattle.price_book.proofs.Keeping.{plan-kept}
use Rattle.price_book.proofs.reference.body.ReferenceBook.apply.Goals as goal

pub invariant_of-self : goal.invariant_of-self
invariant_of-self c = rw (c.append_reserved.ensures, c.into_facts.ensures) (plan-kept _ _ c.self.invariant (rw (← c.self.view_is) at c.requires))
