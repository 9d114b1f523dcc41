use Rattle.std.proofs.Common.{sym, rules}
use Rattle.rfq_room.specs.Causes.{withdrawal_id}
use Rattle.rfq_room.proofs.Keeping.{stepped-plan, withdrawal-listed, withdrawal-stepped}
use Rattle.rfq_room.proofs.rooms.Rooms.plan_withdraw.Goals as goal

pub returns-clause-made : goal.returns-clause-made
returns-clause-made c = stepped-plan c.self.inside.kept.facts _ c.in_ok-plan.plan.facts (sym c.reserve_for.ensures.kept) (withdrawal-stepped c.self.inside.kept.facts c.args.who c.args.moment (withdrawal_id c.args.request.now) c.in_ok-plan.plan c.in_ok-plan.ensures.planned.1) (search rules)

pub returns-clause-listed : goal.returns-clause-listed
returns-clause-listed c = λ count. withdrawal-listed c.self.inside.kept.facts c.args.who c.args.moment (withdrawal_id c.args.request.now) c.in_ok-plan.plan count c.in_ok-plan.ensures.planned.1
