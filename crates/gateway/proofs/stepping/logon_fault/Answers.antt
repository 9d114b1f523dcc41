use Rattle.std.proofs.Common.{◌≡◌, ◌∙◌, ap, subst, Bool}
use Rattle.std.specs.Prelude.{IfOk, Option}
use Rattle.fix_session.specs.declared.frame.Fault.{Fault}
use Rattle.fix_session.specs.declared.session_state.SessionState.{SessionState}
use Rattle.gateway.specs.Steps.{fault_unless, is_past_logon}
use Rattle.gateway.proofs.Steps.{frame_at}
use Rattle.gateway.proofs.stepping.logon_fault.Goals as goal

pub returns-clause-fault : goal.returns-clause-fault
returns-clause-fault c = λ r.
    subst (λ (past : Bool). IfOk c.fault_unless.result (λ (fault : Option Fault). fault ≡ fault_unless r past c.args.session.now.state))
    (c.is_past_logon.ensures ∙ ap (λ (l : SessionState). is_past_logon l) c.line_state-line.ensures) (c.fault_unless.ensures.fault r)

pub returns-clause-frame : goal.returns-clause-frame
returns-clause-frame c = λ r.
    let past = c.is_past_logon.ensures ∙ ap (λ (l : SessionState). is_past_logon l) c.line_state-line.ensures in
    frame_at r c.args.session.now.state c.is_past_logon.result c.fault_unless.result past c.fault_unless.ensures.expected (c.fault_unless.ensures.frame r)
