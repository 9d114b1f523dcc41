use Rattle.std.proofs.Common.{ap, option_map, rules, sym}
use Rattle.cross_delay.specs.Steps.{Drops}
use Rattle.cross_delay.proofs.Keeping.{planned}
use Rattle.cross_delay.proofs.held.Held.plan_drop.Goals as goal

pub returns-clause-made : goal.returns-clause-made
returns-clause-made c = planned c.args.self.now.facts _ (Drops c.args.who c.args.id.now (option_map (λ i. i.now) c.args.new)) c.in_ok-plan.plan.facts (sym c.reserve_for.ensures.kept) c.requires (ap (λ p. p.facts) c.in_ok-plan.ensures) (search rules)
