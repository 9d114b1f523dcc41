use Rattle.fix_session.proofs.FirstFrames.{each_first}
use Rattle.fix_session.proofs.SinceResume.{frames_by_connection}
use Rattle.fix_session.proofs.laws.each_connection_heard.Goals as goal

pub returns-clause-heard : goal.returns-clause-heard
returns-clause-heard c = frames_by_connection

pub returns-clause-first : goal.returns-clause-first
returns-clause-first c =
    let laws = c.stream_laws.ensures in
    each_first laws.passed laws.some laws.one
