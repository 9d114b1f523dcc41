use Rattle.std.proofs.Common.{◌∙◌, List}
use Rattle.venue_rules.specs.Book.{Resting}
use Rattle.price_book.specs.Live.{live}
use Rattle.price_book.specs.Numbered.{IsListed}
use Rattle.price_book.proofs.Living.{find_order-live}
use Rattle.price_book.proofs.book.PriceBook.find_counted.Goals as goal

pub find_counted-requires : goal.find_counted-requires
find_counted-requires c = rw c.deref.ensures.value (live c.self.inside.past, c.self.invariant.step.listed)

pub returns-clause-found : goal.returns-clause-found
returns-clause-found c =
    let rs : List Resting = live c.self.inside.past in
    let listed : IsListed rs c.self.inside.orders.stored_orders.entries c.deref.result.now = rw c.deref.ensures.value c.self.invariant.step.listed in
    rw (← c.self.view_is) (c.find_counted.ensures.found rs listed ∙ find_order-live c.self.inside.past c.args.who c.args.id.now)

pub returns-clause-few : goal.returns-clause-few
returns-clause-few c =
    let rs : List Resting = live c.self.inside.past in
    let listed : IsListed rs c.self.inside.orders.stored_orders.entries c.deref.result.now = rw c.deref.ensures.value c.self.invariant.step.listed in
    rw (← c.self.view_is) (c.find_counted.ensures.few rs listed)
