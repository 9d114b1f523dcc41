use Rattle.gateway.proofs.stepping.fault_unless.Goals as goal

pub returns-else-is_past-clause-fault : goal.returns-else-is_past-clause-fault
returns-else-is_past-clause-fault c = λ r. rw c.if-is_past.false (c.next_logon_fault.ensures.fault r)
