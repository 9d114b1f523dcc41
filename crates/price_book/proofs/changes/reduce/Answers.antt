use Rattle.std.proofs.Common.{◌≡◌, ◌∙◌, ap, sym, ◌<◌, List, Some, None, length, ◌==◌, arith}
use Rattle.std.specs.Option.{option_copied}
use Rattle.price_book.specs.declared.row.Row.{Row}
use Rattle.price_book.specs.declared.stored_order.StoredOrder.{StoredOrder}
use Rattle.price_book.specs.Live.{seen_slot}
use Rattle.price_book.specs.Numbered.{numbered, slot_at}
use Rattle.price_book.specs.SideIndex.{side_index, held}
use Rattle.price_book.proofs.Living.{ledger-reduced}
use Rattle.price_book.proofs.SideQueues.{reduced-absent}
use Rattle.price_book.proofs.Numbers.{kept-some, kept-none, reduced-all}
use Rattle.price_book.proofs.Names.{named-reduced}
use Rattle.price_book.proofs.SideIndex.{side_queues-reduced, held-cut, row-there, ranked-there}
use Rattle.price_book.proofs.changes.reduce.Goals as goal

pub returns-in_default-clause-step : goal.returns-in_default-clause-step
returns-in_default-clause-step c = λ rs h.
    let none : slot_at c.args.orders.now.stored_orders.entries c.args.number ≡ None = sym c.get.ensures.value ∙ ap option_copied c.in_default.is in
    rw (reduced-absent c.args.number c.args.quantity rs (kept-none c.args.number rs c.args.orders.now.stored_orders.entries none h.listed.stored_orders)) h

pub returns-then-stored_order-quantity-clause-step : goal.returns-then-stored_order-quantity-clause-step
returns-then-stored_order-quantity-clause-step c = λ rs h.
    let n = c.args.number in
    let s : StoredOrder = c.in-Some.stored_order.now in
    let some : slot_at c.args.orders.now.stored_orders.entries n ≡ Some s = sym c.get.ensures.value ∙ ap option_copied c.in-Some.is in
    rw (sym (reduced-all n c.args.quantity rs (seen_slot s) (kept-some n s rs c.args.orders.now.stored_orders.entries some h.listed.stored_orders) (omega (arith, c.if-stored_order-quantity.true)))) (c.leave.ensures.step rs h)

pub reduce_side_queue-requires-clause-ranked : goal.reduce_side_queue-requires-clause-ranked
reduce_side_queue-requires-clause-ranked c =
    let o = c.in-Some.stored_order.now.entry.order in
    ranked-there o.instrument o.side c.requires.0 c.args.orders.now.side_queues.items c.requires.1.listed.ledger c.requires.1.side_queues

pub reduce_side_queue-requires-clause-there : goal.reduce_side_queue-requires-clause-there
reduce_side_queue-requires-clause-there c =
    let s : StoredOrder = c.in-Some.stored_order.now in
    let some : slot_at c.args.orders.now.stored_orders.entries c.args.number ≡ Some s = sym c.get.ensures.value ∙ ap option_copied c.in-Some.is in
    row-there c.args.number c.requires.0 (seen_slot s) c.args.orders.now.side_queues.items c.requires.1.listed.ledger (kept-some c.args.number s c.requires.0 c.args.orders.now.stored_orders.entries some c.requires.1.listed.stored_orders) c.requires.1.side_queues

pub reduce_stored_order-requires : goal.reduce_stored_order-requires
reduce_stored_order-requires c =
    let some : slot_at c.args.orders.now.stored_orders.entries c.args.number ≡ Some c.in-Some.stored_order.now = sym c.get.ensures.value ∙ ap option_copied c.in-Some.is in
    let more : c.args.quantity < c.in-Some.stored_order.now.left = omega (arith, c.if-stored_order-quantity.false) in
    rw some more

pub returns-clause-step : goal.returns-clause-step
returns-clause-step c = λ rs h.
    let n = c.args.number in
    let q = c.args.quantity in
    let s : StoredOrder = c.in-Some.stored_order.now in
    let some : slot_at c.args.orders.now.stored_orders.entries n ≡ Some s = sym c.get.ensures.value ∙ ap option_copied c.in-Some.is in
    let here : numbered n rs ≡ Some (seen_slot s) = kept-some n s rs c.args.orders.now.stored_orders.entries some h.listed.stored_orders in
    let more : q < s.left = omega (arith, c.if-stored_order-quantity.false) in
    record {
      listed = record {
        ledger = ledger-reduced n q 0 rs h.listed.ledger;
        stored_orders = c.reduce_stored_order.ensures.stored_orders rs h.listed.ledger h.listed.stored_orders;
        named = named-reduced n q rs (seen_slot s) c.args.orders.now.names.items here more h.listed.named;
      };
      ordered = c.reduce_side_queue.ensures.ordered;
      side_queues = side_queues-reduced n q rs (seen_slot s) c.args.orders.now.side_queues.items c.reduce_side_queue.new.side_queues.items h.listed.ledger here more h.side_queues c.reduce_side_queue.ensures.held;
      empty = h.empty;
    }

pub returns-clause-headroom : goal.returns-clause-headroom
returns-clause-headroom c =
    let s : StoredOrder = c.in-Some.stored_order.now in
    let some : slot_at c.args.orders.now.stored_orders.entries c.args.number ≡ Some s = sym c.get.ensures.value ∙ ap option_copied c.in-Some.is in
    let at = row-there c.args.number c.requires.0 (seen_slot s) c.args.orders.now.side_queues.items c.requires.1.listed.ledger (kept-some c.args.number s c.requires.0 c.args.orders.now.stored_orders.entries some c.requires.1.listed.stored_orders) c.requires.1.side_queues in
    λ n h. record {
      one = h.one;
      stored_orders = omega (arith, h.stored_orders, c.reduce_stored_order.ensures.headroom);
      names = h.names;
      few = h.few;
      side_queues = omega (arith, h.side_queues, c.reduce_side_queue.ensures.len, c.reduce_side_queue.ensures.capacity);
      spare = h.spare;
      places = λ x side. let hs : List Row = held (side_index x side) c.args.orders.now.side_queues.items in omega (arith, ap length (c.reduce_side_queue.ensures.held at.0 (side_index x side) at.1), held-cut (side_index x side == side_index s.entry.order.instrument s.entry.order.side) hs at.0 c.args.quantity, h.places x side);
    }
