use Rattle.std.proofs.Common.{◌∙◌, ap, reverse, arith}
use Rattle.price_book.proofs.Ranking.{cut-turned}
use Rattle.price_book.proofs.rows.cut.Goals as goal

pub reduce-requires : goal.reduce-requires
reduce-requires c = omega (arith, c.place_of-at.ensures c.requires.there.0 c.requires.there.1)

pub returns-clause-rows : goal.returns-clause-rows
returns-clause-rows c = λ k is. ap reverse c.reduce.ensures.items ∙ cut-turned c.args.quantity c.args.rows.now.items c.place_of-at.result k (c.place_of-at.ensures k is)
