use Rattle.std.proofs.Common.{◌∙◌, ap, map}
use Rattle.venue_rules.specs.Book.{shown}
use Rattle.price_book.specs.Views.{seen}
use Rattle.price_book.proofs.Sharing.{mapped-all}
use Rattle.price_book.proofs.reference.picture.shown_side.Goals as goal

pub returns : goal.returns
returns c = c.loop-order.invariant ∙ mapped-all shown seen c.deref-order-items.result.now c.loop-order.order-index c.loop-order-test.false ∙ ap (map shown) (ap (map seen) c.deref-order-items.ensures.value ∙ c.in_ok-orders.ensures)
