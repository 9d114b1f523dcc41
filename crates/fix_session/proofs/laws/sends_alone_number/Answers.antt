use Rattle.fix_session.proofs.Replies.{step_same, tick_same, pushed_same, sent_more}
use Rattle.fix_session.proofs.laws.sends_alone_number.Goals as goal

pub returns-clause-step : goal.returns-clause-step
returns-clause-step c = step_same

pub returns-clause-tick : goal.returns-clause-tick
returns-clause-tick c = tick_same

pub returns-clause-push : goal.returns-clause-push
returns-clause-push c = pushed_same

pub returns-clause-send : goal.returns-clause-send
returns-clause-send c = sent_more
