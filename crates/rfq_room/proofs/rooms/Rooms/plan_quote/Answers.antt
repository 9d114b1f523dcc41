use Rattle.std.proofs.Common.{sym, rules}
use Rattle.rfq_room.proofs.Keeping.{quote-stepped, stepped-plan}
use Rattle.rfq_room.proofs.rooms.Rooms.plan_quote.Goals as goal

pub returns-clause-made : goal.returns-clause-made
returns-clause-made c = stepped-plan c.self.inside.kept.facts _ c.in_ok-plan.plan.facts (sym c.reserve_for.ensures.kept) (quote-stepped c.self.inside.kept.facts c.args.who c.args.quote.now c.in_ok-plan.plan c.in_ok-plan.ensures.planned.1) (search rules)
