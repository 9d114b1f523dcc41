use Rattle.std.proofs.Common.{inr}
use Rattle.head_log.proofs.report.HeadReport.report_newest.Goals as goal

pub returns-in-Some-clause-written : goal.returns-in-Some-clause-written
returns-in-Some-clause-written g c = λ whole. inr (c.in-Some.head, c.write.ensures.written whole)
