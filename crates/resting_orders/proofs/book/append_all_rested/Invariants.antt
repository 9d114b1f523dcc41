use Rattle.std.proofs.Common.{◌≡◌, ◌++◌, take}
use Rattle.std.specs.List.{flat_map}
use Rattle.resting_orders.specs.Book.{rested_text}
use Rattle.resting_orders.proofs.book.append_all_rested.Given as goal

abbrev pub invariant-loop-order : goal.invariant-loop-order
invariant-loop-order l = l.text.items ≡ l.fn.text.items ++ flat_map (rested_text l.form l.participants l.sheet) (take l.order-index l.orders)
