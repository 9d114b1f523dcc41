use Rattle.std.proofs.Common.{◌≡◌, ◌∙◌, ap, sym, List, Some}
use Rattle.venue_rules.specs.Book.{Resting}
use Rattle.price_book.specs.Live.{live, find_live}
use Rattle.price_book.specs.Numbered.{numbered}
use Rattle.price_book.specs.Steps.{IsOwnOf}
use Rattle.price_book.proofs.Living.{find_order-live}
use Rattle.price_book.proofs.Numbers.{found-numbered}
use Rattle.price_book.proofs.book.PriceBook.numbered.Goals as goal

pub returns-clause-found : goal.returns-clause-found
returns-clause-found c = rw (← c.self.view_is) (c.numbered.ensures ∙ c.self.invariant.step.listed.stored_orders c.args.number)

pub returns-clause-own : goal.returns-clause-own
returns-clause-own c = λ who r own.
    let facts = c.self.inside.past in
    let rs : List Resting = live facts in
    let is : IsOwnOf facts who c.args.number r = rw (← c.self.view_is) at own in
    let found : find_live who is.own.id rs ≡ Some r = find_order-live facts who is.own.id ∙ is.own.found in
    c.numbered.ensures ∙ c.self.invariant.step.listed.stored_orders c.args.number ∙ ap (λ n. numbered n rs) (sym is.number) ∙ found-numbered 0 who is.own.id rs r c.self.invariant.step.listed.ledger found
