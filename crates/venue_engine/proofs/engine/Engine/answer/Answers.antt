use Rattle.std.proofs.Common.{max}
use Rattle.venue_rules.specs.Run.{Message}
use Rattle.venue_engine.proofs.Steps.{answered_by}
use Rattle.venue_engine.proofs.engine.Engine.answer.Goals as goal

pub returns-clause-answered : goal.returns-clause-answered
returns-clause-answered g c =
    let t = max c.args.self.now.last c.args.t in
    answered_by c.answer_settled.result (Message c.args.taken.now t) t c.args.self.now c.answer_settled.new.self c.answer_settled.ensures.done c.answer_settled.ensures.undone
