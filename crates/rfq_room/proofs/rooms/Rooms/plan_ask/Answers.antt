use Rattle.std.proofs.Common.{sym, rules}
use Rattle.venue_rules.specs.Market.{market_of}
use Rattle.rfq_room.proofs.Keeping.{request-stepped, stepped-plan}
use Rattle.rfq_room.proofs.rooms.Rooms.plan_ask.Goals as goal

pub returns-clause-made : goal.returns-clause-made
returns-clause-made c = stepped-plan c.self.inside.kept.facts _ c.in_ok-plan.plan.facts (sym c.reserve_for.ensures.kept) (request-stepped (market_of c.args.market) c.self.inside.kept.facts c.args.who c.args.request.now c.args.moment c.in_ok-plan.plan c.in_ok-plan.ensures.planned.0 c.in_ok-plan.ensures.planned.1) (search rules)
