use Rattle.venue_runtime.proofs.working.work_out.Goals as goal

pub returns-clause-worked : goal.returns-clause-worked
returns-clause-worked g c = rw c.ended.ensures c.run_out-worked.ensures.worked

pub returns-clause-shut_down : goal.returns-clause-shut_down
returns-clause-shut_down g c = rw c.ended.ensures c.run_out-worked.ensures.shut_down
