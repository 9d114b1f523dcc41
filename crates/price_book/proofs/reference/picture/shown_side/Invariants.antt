use Rattle.std.proofs.Common.{◌≡◌, take, map}
use Rattle.venue_rules.specs.Book.{shown}
use Rattle.price_book.specs.Views.{seen}
use Rattle.price_book.proofs.reference.picture.shown_side.Given as goal

abbrev pub invariant-loop-order : goal.invariant-loop-order
invariant-loop-order l = l.entries.items ≡ map (λ r. shown (seen r)) (take l.order-index l.order-items)
