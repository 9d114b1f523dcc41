use Rattle.std.proofs.Common.{◌≤◌, ◌+◌, min, length, arith}
use Rattle.std.specs.Vec.{vec_capacity}
use Rattle.price_book.specs.Ranks.{ranks}
use Rattle.price_book.proofs.Pairing.{rows-length}
use Rattle.price_book.proofs.rows.Rows.reserve.Goals as goal

pub returns-clause-headroom : goal.returns-clause-headroom
returns-clause-headroom c =
    let headroom : length (ranks c.self.inside).items + c.args.more ≤ min (vec_capacity c.reserve.new.self) (vec_capacity c.reserve-2.new.self) = omega (arith, c.in_ok-reserve.ensures.ok, c.in_ok-reserve-2.ensures.ok, c.self.inside.priorities.ok, c.self.inside.left.ok, c.self.invariant, rows-length c.self.inside.priorities.items c.self.inside.left.items c.self.invariant) in
    rw (← c.self.view_is) headroom
