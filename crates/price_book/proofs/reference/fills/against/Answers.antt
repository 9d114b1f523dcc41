use Rattle.std.proofs.Common.{◌≡◌, ◌∙◌, ap, map, filter}
use Rattle.venue_rules.specs.Book.{accepts, opposite}
use Rattle.price_book.specs.Views.{seen, ranked_of}
use Rattle.price_book.proofs.Sharing.{filter-accepted}
use Rattle.price_book.proofs.reference.fills.against.Goals as goal

pub returns : goal.returns
returns c =
    let kept : map seen c.in_ok-accepted.accepted.items ≡ filter (λ r. accepts c.args.order.now.side c.args.order.now.price r.entry.order.price) (map seen c.in_ok-orders.orders.items) = rw (c.in_ok-accepted.ensures, c.deref.ensures.value) (filter-accepted c.args.order.now c.in_ok-orders.orders.items) in
    let side : c.opposite.result ≡ opposite c.args.order.now.side = c.opposite.ensures in
    kept ∙ ap (filter (λ r. accepts c.args.order.now.side c.args.order.now.price r.entry.order.price)) (c.in_ok-orders.ensures ∙ ap (λ s. ranked_of c.args.facts.now c.args.order.now.instrument s c.args.facts.now) side)
