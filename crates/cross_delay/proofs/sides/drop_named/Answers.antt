use Rattle.std.proofs.Common.{rules}
use Rattle.std.proofs.lemmas.Fn.{filter_same}
use Rattle.cross_delay.proofs.sides.drop_named.Goals as goal

pub returns-clause-sides : goal.returns-clause-sides
returns-clause-sides c = filter_same _ _ _ (λ x b f' k. search rules) _ _ c.retain.ensures.filtered
