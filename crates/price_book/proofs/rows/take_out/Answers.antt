use Rattle.std.proofs.Common.{◌∙◌, ap, reverse, arith}
use Rattle.price_book.proofs.Turned.{remove-turned}
use Rattle.price_book.proofs.rows.take_out.Goals as goal

pub remove-requires : goal.remove-requires
remove-requires c = omega (arith, c.place_of-at.ensures c.requires.there.0 c.requires.there.1)

pub returns-clause-rows : goal.returns-clause-rows
returns-clause-rows c = λ k is. ap reverse c.remove.ensures.items ∙ remove-turned c.args.rows.now.items c.place_of-at.result k (c.place_of-at.ensures k is)
