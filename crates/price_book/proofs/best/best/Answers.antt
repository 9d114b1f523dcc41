use Rattle.std.proofs.Common.{arith}
use Rattle.venue_rules.specs.Book.{resting}
use Rattle.price_book.proofs.Bests.{some_first}
use Rattle.price_book.proofs.best.best.Goals as goal

pub returns : goal.returns
returns c =
    some_first (resting c.args.book.past.now c.args.instrument c.args.side) c.in-Some.rows.now.items c.len-count.result c.row.result c.in-Some.ensures c.len-count.ensures (omega (arith, c.if-count-eq0.false)) c.row.ensures
