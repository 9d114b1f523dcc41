use Rattle.fix_session.proofs.Answered.{step_grows, tick_grows}
use Rattle.fix_session.proofs.laws.ready_grows.Goals as goal

pub returns-clause-step : goal.returns-clause-step
returns-clause-step c = step_grows

pub returns-clause-tick : goal.returns-clause-tick
returns-clause-tick c = tick_grows
