use Rattle.std.proofs.Common.{sym, rules}
use Rattle.rfq_room.specs.Causes.{decide}
use Rattle.rfq_room.proofs.Keeping.{response-listed, response-stepped, stepped-plan}
use Rattle.rfq_room.proofs.rooms.Rooms.plan_answer.Goals as goal

pub returns-clause-made : goal.returns-clause-made
returns-clause-made c = stepped-plan c.self.inside.kept.facts _ c.in_ok-plan.plan.facts (sym c.reserve_for.ensures.kept) (response-stepped c.self.inside.kept.facts c.args.who c.args.response.now c.args.moment (decide c.self.inside.kept.facts c.args.who c.args.response.now c.args.moment) c.in_ok-plan.plan c.in_ok-plan.ensures.planned) (search rules)

pub returns-clause-listed : goal.returns-clause-listed
returns-clause-listed c = λ count. response-listed c.self.inside.kept.facts c.args.who c.args.response.now c.args.moment (decide c.self.inside.kept.facts c.args.who c.args.response.now c.args.moment) c.in_ok-plan.plan count c.in_ok-plan.ensures.planned
