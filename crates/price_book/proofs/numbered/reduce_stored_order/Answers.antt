use Rattle.std.proofs.Common.{◌≡◌, ◌∙◌, ap, sym, refl, ◌<◌, Some, None}
use Rattle.std.specs.Option.{option_copied_mut}
use Rattle.price_book.specs.declared.stored_order.StoredOrder.{StoredOrder}
use Rattle.price_book.specs.Numbered.{slot_at}
use Rattle.price_book.proofs.SideQueues.{reduced-absent}
use Rattle.price_book.proofs.Numbers.{kept-none, reduce-numbered}
use Rattle.price_book.proofs.numbered.reduce_stored_order.Goals as goal

pub returns-in-Some-clause-stored_orders : goal.returns-in-Some-clause-stored_orders
returns-in-Some-clause-stored_orders c = λ rs ledger kept.
    let n = c.args.number in
    let s : StoredOrder = c.in-Some.stored_order.now in
    let some : slot_at c.args.stored_orders.now.entries n ≡ Some s = sym c.get_mut.ensures.value ∙ ap option_copied_mut c.in-Some.is in
    let more : c.args.quantity < s.left = rw some at c.requires in
    reduce-numbered n c.args.quantity s _ rs c.args.stored_orders.now.entries _ some more refl ((c.get_mut.follows.holds _).3 (rw some refl)).0 kept

pub returns-in_default-clause-stored_orders : goal.returns-in_default-clause-stored_orders
returns-in_default-clause-stored_orders c = λ rs ledger kept.
    let none : slot_at c.args.stored_orders.now.entries c.args.number ≡ None = sym c.get_mut.ensures.value ∙ ap option_copied_mut c.in_default.is in
    rw (reduced-absent c.args.number c.args.quantity rs (kept-none c.args.number rs c.args.stored_orders.now.entries none kept), c.get_mut.follows.holds-at-none) kept
