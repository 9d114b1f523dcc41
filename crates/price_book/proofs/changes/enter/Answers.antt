use Rattle.std.proofs.Common.{◌≡◌, ◌∙◌, ap, sym, refl, [], ◌∷◌, ◌++◌, length, cond, true, ◌==◌, arith}
use Rattle.venue_rules.specs.Book.{Resting}
use Rattle.price_book.specs.Live.{is_live, joined_by}
use Rattle.price_book.specs.SideIndex.{side_index, held}
use Rattle.price_book.specs.Views.{seen}
use Rattle.price_book.proofs.SideIndex.{side_queues-joined, held-more, live-left, ranked-there}
use Rattle.price_book.proofs.changes.enter.Goals as goal

pub returns-then-order-gt0-clause-step : goal.returns-then-order-gt0-clause-step
returns-then-order-gt0-clause-step c = λ rs ledger h.
    let r : Resting = seen c.args.order in
    let live : is_live r ≡ true = live-left r (sym c.is_day.ensures ∙ c.if-is_day.true) (omega (arith, c.if-order-gt0.true)) in
    let grown : joined_by r rs ≡ rs ++ r ∷ [] = ap (λ b. cond b (rs ++ r ∷ []) rs) live in
    record {
      listed = record {
        ledger = ledger;
        stored_orders = c.put.ensures rs live ledger h.listed.stored_orders;
        named = rw grown (c.add_name.ensures.named rs r refl h.listed);
      };
      ordered = c.enter_side_queue.ensures.ordered;
      side_queues = side_queues-joined rs r c.args.orders.now.side_queues.items c.enter_side_queue.new.side_queues.items live h.side_queues (rw c.row_of.ensures at c.enter_side_queue.ensures.held);
      empty = c.enter_side_queue.ensures.empty;
    }

pub returns-then-order-gt0-clause-headroom : goal.returns-then-order-gt0-clause-headroom
returns-then-order-gt0-clause-headroom c =
    let r : Resting = seen c.args.order in
    record {
      one = omega arith;
      stored_orders = omega arith;
      names = omega (arith, c.requires.headroom.names, c.add_name.ensures.len, c.add_name.ensures.capacity);
      few = omega (arith, c.requires.headroom.few, c.add_name.ensures.len);
      side_queues = omega (arith, c.requires.headroom.side_queues, c.enter_side_queue.ensures.len, c.enter_side_queue.ensures.capacity);
      spare = omega arith;
      places = λ x side. omega (arith, ap length (c.enter_side_queue.ensures.held (side_index x side)), held-more r.entry.order.side c.row_of.result (side_index x side == side_index r.entry.order.instrument r.entry.order.side) (held (side_index x side) c.args.orders.now.side_queues.items), c.requires.headroom.places x side);
    }

pub add_name-requires-clause-listed : goal.add_name-requires-clause-listed
add_name-requires-clause-listed c = (c.requires.step.0, c.requires.step.1.listed)

pub enter_side_queue-requires-clause-ranked : goal.enter_side_queue-requires-clause-ranked
enter_side_queue-requires-clause-ranked c =
    let r : Resting = seen c.args.order in
    ranked-there r.entry.order.instrument r.entry.order.side c.requires.step.0 c.args.orders.now.side_queues.items c.requires.step.1.listed.ledger c.requires.step.1.side_queues
