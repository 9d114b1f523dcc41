use Rattle.std.proofs.Common.{◌≡◌, ℕ, List, ◌++◌, ◌∙◌, ap}
use Rattle.fix_decoder.specs.Messages.{fault_in, message_in}
use Rattle.frame_explanation.proofs.Outcomes.{both_ok}
use Rattle.frame_explanation.proofs.Saying.{said_fault}
use Rattle.frame_explanation.proofs.bodies.append_verdict.Goals as goal

pub returns-in-Err : goal.returns-in-Err
returns-in-Err c =
    let fields = c.args.fields.now in
    both_ok c.append_fault.result _ _ _
    (λ line real. line ∙ ap (λ (l : List ℕ). c.args.out.now.items ++ l) (said_fault c.args.direction (fault_in fields) c.in-Err.fault (message_in fields).body c.in-Err.ensures.read real))
    c.append_fault.ensures.line c.append_fault.ensures.real
