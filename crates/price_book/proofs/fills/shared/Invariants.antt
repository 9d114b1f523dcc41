use Rattle.std.proofs.Common.{◌≡◌, ◌++◌, ◌-◌, length, drop, map}
use Rattle.venue_rules.specs.Book.{against, opposite, resting}
use Rattle.price_book.specs.Views.{seen_fill, share_out, left_over}
use Rattle.price_book.proofs.Giving.{met}
use Rattle.price_book.proofs.fills.shared.Given as goal

abbrev pub invariant-loop-at : goal.invariant-loop-at
invariant-loop-at l = (map seen_fill l.fills.items ++ share_out l.wanted (met l.order (drop (length l.rows.items - l.at) (resting l.book.past.now l.order.instrument (opposite l.order.side)))) ≡ share_out l.order.quantity (against l.book.past.now l.order)) × (left_over l.wanted (met l.order (drop (length l.rows.items - l.at) (resting l.book.past.now l.order.instrument (opposite l.order.side)))) ≡ left_over l.order.quantity (against l.book.past.now l.order))
