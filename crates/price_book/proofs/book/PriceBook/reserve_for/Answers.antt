use Rattle.std.proofs.Common.{◌≡◌, ◌∙◌, ap, length, arith}
use Rattle.std.proofs.lemmas.List.{length-map}
use Rattle.venue_rules.specs.Book.{resting}
use Rattle.price_book.specs.Rows.{row_of, rows_of}
use Rattle.price_book.specs.SideIndex.{side_index, held}
use Rattle.price_book.proofs.Living.{resting-live}
use Rattle.price_book.proofs.book.PriceBook.reserve_for.Goals as goal

pub reserve-requires-2-clause-places : goal.reserve-requires-2-clause-places
reserve-requires-2-clause-places c = λ x side.
    let facts = c.self.inside.past in
    let same : held (side_index x side) c.self.inside.orders.side_queues.items ≡ rows_of (resting facts x side) = c.self.invariant.step.side_queues x side ∙ ap rows_of (resting-live facts x side) in
    omega (arith, ap length same, length-map (resting facts x side) row_of, c.self.invariant.book.sides x side)
