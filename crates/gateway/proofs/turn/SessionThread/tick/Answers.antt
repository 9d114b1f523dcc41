use Rattle.std.proofs.Common.{subst}
use Rattle.gateway.specs.Thread.{AnswersTick, Thread, kept_in}
use Rattle.gateway.proofs.Steps.{tick_leads_from}
use Rattle.gateway.proofs.turn.SessionThread.tick.Goals as goal

pub returns-clause-moves : goal.returns-clause-moves
returns-clause-moves g c =
    let a = c.self.inside in
    let inside : Thread = record { session = a.session.state; kept = kept_in a.kept a.buffer; hand = a.hand; take = a.take; said = g.L.Line.said a.line } in
    λ r. tick_leads_from r c.args.t c.tick_session.result c.args.self.now inside c.tick_session.new.session.state c.self.view_is c.tick_session.ensures.moves

pub returns-clause-answer : goal.returns-clause-answer
returns-clause-answer g c = subst (λ (thread : Thread). AnswersTick c.args.t thread.session c.tick_session.result) c.self.view_is c.tick_session.ensures.answer
