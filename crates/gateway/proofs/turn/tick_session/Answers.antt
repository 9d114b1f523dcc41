use Rattle.std.proofs.Common.{ap}
use Rattle.fix_session.specs.declared.session_state.SessionState.{SessionState}
use Rattle.gateway.proofs.Steps.{tick_answers, ticked_to}
use Rattle.gateway.proofs.turn.tick_session.Goals as goal

pub returns-in-Ok-clause-moves : goal.returns-in-Ok-clause-moves
returns-in-Ok-clause-moves c =
    ticked_to c.args.t c.args.session.now.state c.tick.new.self.state c.line_state-line.result.logged_on c.in-Ok.answer c.outcome_of.result c.outcome_of.ensures c.in-Ok.ensures.state

pub returns-in-Ok-clause-answer : goal.returns-in-Ok-clause-answer
returns-in-Ok-clause-answer c =
    tick_answers c.args.t c.args.session.now.state c.line_state-line.result.logged_on c.in-Ok.answer c.outcome_of.result c.outcome_of.ensures c.in-Ok.ensures.answer
    (ap (λ (l : SessionState). l.logged_on) c.line_state-line.ensures)
