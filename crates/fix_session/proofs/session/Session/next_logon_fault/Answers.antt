use Rattle.std.proofs.Common.{sym, subst}
use Rattle.fix_session.specs.Reader.{IsSettled}
use Rattle.fix_session.proofs.session.Session.next_logon_fault.Goals as goal

pub invariant_of-self : goal.invariant_of-self
invariant_of-self c = subst IsSettled (sym c.front_logon_fault.ensures.same) c.self.invariant

pub returns-clause-fault : goal.returns-clause-fault
returns-clause-fault c = λ r. rw (← c.self.view_is) (c.front_logon_fault.ensures.fault r)

pub returns-clause-frame : goal.returns-clause-frame
returns-clause-frame c = λ r. rw (← c.self.view_is) (c.front_logon_fault.ensures.frame r)
