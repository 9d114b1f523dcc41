use Rattle.std.proofs.Common.{◌<◌, length, arith}
use Rattle.price_book.specs.Ranks.{ranks}
use Rattle.price_book.proofs.Pairing.{rows-length, rows-remove}
use Rattle.price_book.proofs.rows.Rows.remove.Goals as goal

pub remove-priority-requires : goal.remove-priority-requires
remove-priority-requires c =
    let within : c.args.at < length (ranks c.self.inside).items = rw (← c.self.view_is) at c.requires in
    omega (arith, within, c.self.inside.priorities.ok, c.self.invariant, rows-length c.self.inside.priorities.items c.self.inside.left.items c.self.invariant)

pub returns-clause-items : goal.returns-clause-items
returns-clause-items c = rw (← c.self.view_is, c.remove-priority.ensures.items, c.remove-left.ensures.items) (rows-remove c.self.inside.priorities.items c.self.inside.left.items c.args.at c.self.invariant)
