use Rattle.std.proofs.Common.{◌≤◌, ◌<◌, length, arith}
use Rattle.price_book.specs.declared.row.Priority.{Priority}
use Rattle.price_book.specs.Ranks.{ranks}
use Rattle.price_book.proofs.Pairing.{rows-length, rows-insert}
use Rattle.price_book.proofs.rows.Rows.insert.Goals as goal

pub insert_at-requires-clause-within : goal.insert_at-requires-clause-within
insert_at-requires-clause-within c =
    let within : c.args.at ≤ length (ranks c.self.inside).items = rw (← c.self.view_is) at c.requires.within in
    omega (arith, within, c.self.inside.priorities.ok, c.self.invariant, rows-length c.self.inside.priorities.items c.self.inside.left.items c.self.invariant)

pub insert_at-requires-clause-headroom : goal.insert_at-requires-clause-headroom
insert_at-requires-clause-headroom c =
    let headroom : length (ranks c.self.inside).items < (ranks c.self.inside).capacity = rw (← c.self.view_is) at c.requires.headroom in
    omega (arith, headroom, c.self.inside.priorities.ok, c.self.invariant, rows-length c.self.inside.priorities.items c.self.inside.left.items c.self.invariant)

pub insert_at-requires-2-clause-within : goal.insert_at-requires-2-clause-within
insert_at-requires-2-clause-within c =
    let within : c.args.at ≤ length (ranks c.self.inside).items = rw (← c.self.view_is) at c.requires.within in
    omega (arith, within, c.self.inside.left.ok, rows-length c.self.inside.priorities.items c.self.inside.left.items c.self.invariant)

pub insert_at-requires-2-clause-headroom : goal.insert_at-requires-2-clause-headroom
insert_at-requires-2-clause-headroom c =
    let headroom : length (ranks c.self.inside).items < (ranks c.self.inside).capacity = rw (← c.self.view_is) at c.requires.headroom in
    omega (arith, headroom, c.self.inside.left.ok, rows-length c.self.inside.priorities.items c.self.inside.left.items c.self.invariant)

pub invariant_of-self : goal.invariant_of-self
invariant_of-self c = omega (arith, c.self.invariant, c.self.inside.priorities.ok, c.self.inside.left.ok, c.insert_at.ensures.len, c.insert_at-2.ensures.len, c.insert_at.new.items.ok, c.insert_at-2.new.items.ok)

pub returns-clause-items : goal.returns-clause-items
returns-clause-items c =
    let priority : Priority = record { number = c.args.row.number; price = c.args.row.price } in
    rw (← c.self.view_is, c.insert_at.ensures.items, c.insert_at-2.ensures.items) (rows-insert c.self.inside.priorities.items c.self.inside.left.items c.args.at priority c.args.row.left c.self.invariant)
