use Rattle.std.proofs.Common.{◌∙◌, ap, sym, ℕ}
use Rattle.fix_session.specs.declared.session_state.SessionState.{SessionState}
use Rattle.gateway.specs.Steps.{stepped}
use Rattle.gateway.proofs.Steps.{answers, counts_once, settles, shortens, emitted}
use Rattle.gateway.proofs.stepping.hear.Goals as goal

pub returns-in-Ok-clause-moves : goal.returns-in-Ok-clause-moves
returns-in-Ok-clause-moves c = λ r.
    c.in-Ok.ensures.state r ∙ ap (λ (n : ℕ). stepped r n c.args.t c.args.session.now.state) (sym (counts_once c.line_state-line.result.logged_on c.args.fault c.in-Ok.answer c.end_of.result c.end_of.ensures))

pub returns-in-Ok-clause-settled : goal.returns-in-Ok-clause-settled
returns-in-Ok-clause-settled c = λ r.
    settles r c.args.session.now.state c.step.new.self.state c.line_state-line.result.logged_on c.args.fault c.in-Ok.answer c.end_of.result c.end_of.ensures
    (emitted r (c.idle_at_the_end.ensures r) (c.steps_shorten.ensures r) c.args.session.now.state c.step.new.self.state c.args.t c.in-Ok.answer (c.in-Ok.ensures.state r) (c.in-Ok.ensures.answer r))

pub returns-in-Ok-clause-shorter : goal.returns-in-Ok-clause-shorter
returns-in-Ok-clause-shorter c =
    let r = c.one_reader.ensures.some in
    shortens r c.args.session.now.state c.step.new.self.state c.line_state-line.result.logged_on c.args.fault c.in-Ok.answer c.end_of.result c.end_of.ensures
    (emitted r (c.idle_at_the_end.ensures r) (c.steps_shorten.ensures r) c.args.session.now.state c.step.new.self.state c.args.t c.in-Ok.answer (c.in-Ok.ensures.state r) (c.in-Ok.ensures.answer r))

pub returns-in-Ok-clause-answer : goal.returns-in-Ok-clause-answer
returns-in-Ok-clause-answer c = λ r fault_is.
    answers r c.args.t c.args.session.now.state c.line_state-line.result.logged_on c.args.fault c.in-Ok.answer c.end_of.result c.end_of.ensures (c.in-Ok.ensures.answer r)
    (ap (λ (l : SessionState). l.logged_on) c.line_state-line.ensures) fault_is

pub returns-in-Err-clause-answer : goal.returns-in-Err-clause-answer
returns-in-Err-clause-answer c = λ r _. c.in-Err.ensures.frame r
