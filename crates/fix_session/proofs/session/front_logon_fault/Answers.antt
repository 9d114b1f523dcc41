use Rattle.std.proofs.Common.{◌∙◌, ap, is_some, sym}
use Rattle.fix_session.specs.Machine.{logon_fault, logon_fault_in}
use Rattle.fix_session.proofs.OneStep.{found_of}
use Rattle.fix_session.proofs.Steps.{given_back}
use Rattle.fix_session.proofs.session.front_logon_fault.Goals as goal

pub returns-in_default-clause-fault : goal.returns-in_default-clause-fault
returns-in_default-clause-fault c = λ r. sym (ap (logon_fault_in r c.args.ids.now) (c.in_default.ensures.end r))

pub returns-in_default-frame-clause-same : goal.returns-in_default-frame-clause-same
returns-in_default-frame-clause-same c =
    given_back c.args.cutter.now.unread c.next_body.new.cutter.unread c.back.new.self.unread c.in-Some.body.start c.in-Some.body.end c.next_body.new.cutter.taken c.in-Some.ensures.taken c.in-Some.ensures.some c.back.ensures.unread

pub returns-clause-same : goal.returns-clause-same
returns-clause-same c =
    given_back c.args.cutter.now.unread c.next_body.new.cutter.unread c.back.new.self.unread c.in-Some.body.start c.in-Some.body.end c.next_body.new.cutter.taken c.in-Some.ensures.taken c.in-Some.ensures.some c.back.ensures.unread

pub returns-clause-fault : goal.returns-clause-fault
returns-clause-fault c =
    λ r. c.logon_fault.ensures ∙ ap (λ frame. logon_fault frame.content) (c.in-Ok.ensures r)
    ∙ sym (ap (logon_fault_in r c.args.ids.now) (found_of _ _ _ _ _ _ c.in-Some.ensures.some c.taken.ensures r))

pub returns-in_default-frame-clause-frame : goal.returns-in_default-frame-clause-frame
returns-in_default-frame-clause-frame c =
    λ r. ap is_some (found_of _ _ _ _ _ _ c.in-Some.ensures.some c.taken.ensures r)
