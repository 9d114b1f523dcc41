use Rattle.std.proofs.Common.{◌≡◌, ◌∙◌, ap, sym, List, Some, None, length, ◌==◌, arith}
use Rattle.venue_rules.specs.Book.{Resting}
use Rattle.price_book.specs.declared.row.Row.{Row}
use Rattle.price_book.specs.declared.stored_order.StoredOrder.{StoredOrder}
use Rattle.price_book.specs.Live.{seen_slot, without}
use Rattle.price_book.specs.Numbered.{numbered, slot_at}
use Rattle.price_book.specs.SideIndex.{side_index, held}
use Rattle.price_book.proofs.SideQueues.{without-absent}
use Rattle.price_book.proofs.Numbers.{Found, kept-some, kept-none, numbered-some, without-place, ledger-without}
use Rattle.price_book.proofs.Names.{place-key}
use Rattle.price_book.proofs.SideIndex.{side_queues-without, held-gone, row-there, ranked-there}
use Rattle.price_book.proofs.changes.leave.Goals as goal

pub returns-in_default-clause-step : goal.returns-in_default-clause-step
returns-in_default-clause-step c = λ rs h.
    let n = c.args.number in
    let none : slot_at c.args.orders.now.stored_orders.entries n ≡ None = sym c.take.ensures.value ∙ c.in_default.is in
    let all : without n rs ≡ rs = without-absent n rs (kept-none n rs c.args.orders.now.stored_orders.entries none h.listed.stored_orders) in
    rw all (record {
      listed = record {
        ledger = h.listed.ledger;
        stored_orders = rw all at (c.take.ensures.stored_orders rs h.listed.ledger h.listed.stored_orders);
        named = h.listed.named;
      };
      ordered = h.ordered;
      side_queues = h.side_queues;
      empty = h.empty;
    })

pub leave_side_queue-requires-clause-ranked : goal.leave_side_queue-requires-clause-ranked
leave_side_queue-requires-clause-ranked c =
    let o = c.in-Some.stored_order.entry.order in
    ranked-there o.instrument o.side c.requires.0 c.args.orders.now.side_queues.items c.requires.1.listed.ledger c.requires.1.side_queues

pub leave_side_queue-requires-clause-there : goal.leave_side_queue-requires-clause-there
leave_side_queue-requires-clause-there c =
    let n = c.args.number in
    let s : StoredOrder = c.in-Some.stored_order in
    let some : slot_at c.args.orders.now.stored_orders.entries n ≡ Some s = sym c.take.ensures.value ∙ c.in-Some.is in
    row-there n c.requires.0 (seen_slot s) c.args.orders.now.side_queues.items c.requires.1.listed.ledger (kept-some n s c.requires.0 c.args.orders.now.stored_orders.entries some c.requires.1.listed.stored_orders) c.requires.1.side_queues

pub remove_name-requires : goal.remove_name-requires
remove_name-requires c =
    let n = c.args.number in
    let rs : List Resting = c.requires.0 in
    let s : StoredOrder = c.in-Some.stored_order in
    let some : slot_at c.args.orders.now.stored_orders.entries n ≡ Some s = sym c.take.ensures.value ∙ c.in-Some.is in
    let f : Found n rs (seen_slot s) = numbered-some n rs (seen_slot s) (kept-some n s rs c.args.orders.now.stored_orders.entries some c.requires.1.listed.stored_orders) in
    (rs, c.requires.1.listed.ledger, c.requires.1.listed.named, f.at, place-key n rs f.at s f.place f.here)

pub returns-clause-step : goal.returns-clause-step
returns-clause-step c = λ rs h.
    let n = c.args.number in
    let s : StoredOrder = c.in-Some.stored_order in
    let some : slot_at c.args.orders.now.stored_orders.entries n ≡ Some s = sym c.take.ensures.value ∙ c.in-Some.is in
    let here : numbered n rs ≡ Some (seen_slot s) = kept-some n s rs c.args.orders.now.stored_orders.entries some h.listed.stored_orders in
    let f : Found n rs (seen_slot s) = numbered-some n rs (seen_slot s) here in
    record {
      listed = record {
        ledger = ledger-without n 0 rs h.listed.ledger;
        stored_orders = c.take.ensures.stored_orders rs h.listed.ledger h.listed.stored_orders;
        named = rw (without-place n rs f.at f.place) (c.remove_name.ensures.named rs f.at h.listed.ledger (place-key n rs f.at s f.place f.here) h.listed.named);
      };
      ordered = c.leave_side_queue.ensures.ordered;
      side_queues = side_queues-without n rs (seen_slot s) c.args.orders.now.side_queues.items c.leave_side_queue.new.side_queues.items h.listed.ledger here h.side_queues c.leave_side_queue.ensures.held;
      empty = h.empty;
    }

pub returns-clause-headroom : goal.returns-clause-headroom
returns-clause-headroom c =
    let m = c.args.number in
    let s : StoredOrder = c.in-Some.stored_order in
    let some : slot_at c.args.orders.now.stored_orders.entries m ≡ Some s = sym c.take.ensures.value ∙ c.in-Some.is in
    let at = row-there m c.requires.0 (seen_slot s) c.args.orders.now.side_queues.items c.requires.1.listed.ledger (kept-some m s c.requires.0 c.args.orders.now.stored_orders.entries some c.requires.1.listed.stored_orders) c.requires.1.side_queues in
    λ n h. record {
      one = h.one;
      stored_orders = omega (arith, h.stored_orders, c.take.ensures.headroom);
      names = omega (arith, h.names, c.remove_name.ensures.len, c.remove_name.ensures.capacity);
      few = omega (arith, h.few, c.remove_name.ensures.len);
      side_queues = omega (arith, h.side_queues, c.leave_side_queue.ensures.len, c.leave_side_queue.ensures.capacity);
      spare = h.spare;
      places = λ x side. let hs : List Row = held (side_index x side) c.args.orders.now.side_queues.items in omega (arith, ap length (c.leave_side_queue.ensures.held at.0 (side_index x side) at.1), held-gone (side_index x side == side_index s.entry.order.instrument s.entry.order.side) hs at.0, h.places x side);
    }
