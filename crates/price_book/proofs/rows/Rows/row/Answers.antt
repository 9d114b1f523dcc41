use Rattle.std.proofs.Common.{◌<◌, length, arith}
use Rattle.price_book.specs.Ranks.{ranks}
use Rattle.price_book.proofs.Pairing.{rows-length, rows-read}
use Rattle.price_book.proofs.rows.Rows.row.Goals as goal

pub index-priority-requires : goal.index-priority-requires
index-priority-requires c =
    let within : c.args.at < length (ranks c.self.inside).items = rw (← c.self.view_is) at c.requires in
    omega (arith, within, c.self.inside.priorities.ok, c.self.invariant, rows-length c.self.inside.priorities.items c.self.inside.left.items c.self.invariant)

pub index-requires : goal.index-requires
index-requires c =
    let within : c.args.at < length (ranks c.self.inside).items = rw (← c.self.view_is) at c.requires in
    omega (arith, within, c.self.inside.left.ok, rows-length c.self.inside.priorities.items c.self.inside.left.items c.self.invariant)

pub returns : goal.returns
returns c =
    let within : c.args.at < length (ranks c.self.inside).items = rw (← c.self.view_is) at c.requires in
    let inside : c.args.at < length c.self.inside.left.items = omega (arith, within, rows-length c.self.inside.priorities.items c.self.inside.left.items c.self.invariant) in
    rw (← c.self.view_is) (rows-read c.self.inside.priorities.items c.self.inside.left.items c.args.at c.index-priority.result.now c.index.result.now _ c.self.invariant inside c.index-priority.ensures c.index.ensures)
