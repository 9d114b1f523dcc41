use Rattle.std.proofs.Common.{◌≡◌, List, ◌∙◌, IfOk, Result, ap, subst, sym}
use Rattle.fix_fields.specs.Fields.{Entry}
use Rattle.fix_fields.specs.declared.fields.FieldFault.{FieldFault}
use Rattle.frame_explanation.specs.Bodies.{body_fault}
use Rattle.frame_explanation.proofs.Outcomes.{both_if}
use Rattle.frame_explanation.proofs.Readers.{fault_is, fields_are}
use Rattle.frame_explanation.proofs.bodies.body_fault.Goals as goal

pub returns-in-Ok : goal.returns-in-Ok
returns-in-Ok c = λ r.
    let body = c.args.body.now in
    let read = fields_are c.one_list.ensures c.one_fault.ensures.none body (r.fields body) (r.are_fields body) _ c.in-Ok.ensures.read.0 c.in-Ok.ensures.read.1 in
    subst (λ (x : Result (List Entry) FieldFault). IfOk c.fault_of_fields.result (λ text. text.items ≡ body_fault x)) (sym read) c.fault_of_fields.ensures

pub returns : goal.returns
returns c = λ r.
    let body = c.args.body.now in
    both_if c.line_of_piece.result _ _ _
    (λ text line real.
    line ∙ ap (λ (x : Result (List Entry) FieldFault). body_fault x)
    (sym (fault_is c.one_fault.ensures.determined c.one_fault.ensures.none body (r.fields body) (r.are_fields body) c.in-Err.fault real c.in-Err.ensures.read)))
    c.line_of_piece.ensures.line c.line_of_piece.ensures.real
