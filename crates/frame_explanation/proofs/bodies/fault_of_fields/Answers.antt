use Rattle.std.proofs.Common.{◌∙◌}
use Rattle.fix_decoder.specs.Messages.{fault_in}
use Rattle.frame_explanation.proofs.Outcomes.{both_if}
use Rattle.frame_explanation.proofs.Saying.{is_fault_line}
use Rattle.frame_explanation.proofs.bodies.fault_of_fields.Goals as goal

pub returns-in-Err : goal.returns-in-Err
returns-in-Err c =
    both_if c.line_of_fault.result _ _ _
    (λ text line real. line ∙ is_fault_line (fault_in c.args.fields.now) c.in-Err.fault c.in-Err.ensures.read real)
    c.line_of_fault.ensures.line c.line_of_fault.ensures.real
