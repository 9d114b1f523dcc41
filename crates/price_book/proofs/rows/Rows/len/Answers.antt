use Rattle.std.proofs.Common.{◌≡◌, length, arith}
use Rattle.price_book.specs.Ranks.{ranks}
use Rattle.price_book.proofs.Pairing.{rows-length}
use Rattle.price_book.proofs.rows.Rows.len.Goals as goal

pub returns : goal.returns
returns c =
    let len : c.len.result ≡ length (ranks c.self.inside).items = omega (arith, c.len.ensures, c.self.inside.left.ok, rows-length c.self.inside.priorities.items c.self.inside.left.items c.self.invariant) in
    rw (← c.self.view_is) len
