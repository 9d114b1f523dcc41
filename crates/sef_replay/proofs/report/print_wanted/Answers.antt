use Rattle.std.proofs.Common.{rules}
use Rattle.sef_replay.proofs.report.print_wanted.Goals as goal

pub returns-in-None-clause-emitted : goal.returns-in-None-clause-emitted
returns-in-None-clause-emitted g c = rw c.in-None.is (search rules)

pub returns-in-None-clause-fault : goal.returns-in-None-clause-fault
returns-in-None-clause-fault g c = rw c.in-None.is (search rules)

pub returns-in-None-clause-begun : goal.returns-in-None-clause-begun
returns-in-None-clause-begun g c = rw c.in-None.is (search rules)

pub returns-in-Some-clause-emitted : goal.returns-in-Some-clause-emitted
returns-in-Some-clause-emitted g c = rw c.in-Some.is (search rules)

pub returns-in-Some-clause-fault : goal.returns-in-Some-clause-fault
returns-in-Some-clause-fault g c = rw c.in-Some.is (search rules)

pub returns-in-Some-clause-begun : goal.returns-in-Some-clause-begun
returns-in-Some-clause-begun g c = rw c.in-Some.is (search rules)
