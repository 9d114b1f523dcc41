use Rattle.std.proofs.Common.{◌≡◌, ◌∙◌, ap, ◌-◌, ◌<◌, length, arith}
use Rattle.price_book.specs.Ranks.{ranks}
use Rattle.price_book.proofs.Pairing.{rows-length, rows-cut}
use Rattle.price_book.proofs.rows.Rows.reduce.Goals as goal

pub index_mut-left-requires : goal.index_mut-left-requires
index_mut-left-requires c =
    let within : c.args.at < length (ranks c.self.inside).items = rw (← c.self.view_is) at c.requires in
    omega (arith, within, c.self.inside.left.ok, rows-length c.self.inside.priorities.items c.self.inside.left.items c.self.invariant)

pub returns-clause-items : goal.returns-clause-items
returns-clause-items c =
    let less : c.new.result ≡ c.index_mut-left.result.now - c.args.quantity = c.new.ensures ∙ c.saturating_sub.ensures ∙ ap (λ n. n - c.args.quantity) c.get.ensures.value in
    rw (← c.self.view_is, less) (rows-cut c.self.inside.priorities.items c.self.inside.left.items c.args.at c.args.quantity c.index_mut-left.result.now c.self.invariant c.index_mut-left.ensures.value)
