use Rattle.std.proofs.Common.{◌≡◌, ℕ, List, ◌++◌, ◌∙◌, OnOk, Result, ap, subst, sym}
use Rattle.fix_fields.specs.Fields.{Entry}
use Rattle.fix_fields.specs.declared.fields.FieldFault.{FieldFault}
use Rattle.frame_explanation.specs.Bodies.{body_text}
use Rattle.frame_explanation.proofs.Outcomes.{both_ok}
use Rattle.frame_explanation.proofs.Readers.{fault_is, fields_are}
use Rattle.frame_explanation.proofs.bodies.append_body.Goals as goal

pub returns-in-Ok : goal.returns-in-Ok
returns-in-Ok c = λ r.
    let body = c.args.body.now in
    let read = fields_are c.one_list.ensures c.one_fault.ensures.none body (r.fields body) (r.are_fields body) _ c.in-Ok.ensures.read.0 c.in-Ok.ensures.read.1 in
    subst (λ (x : Result (List Entry) FieldFault). OnOk c.append_named.result (c.append_named.new.out.items ≡ c.args.out.now.items ++ body_text c.args.direction body x)) (sym read) c.append_named.ensures

pub returns : goal.returns
returns c = λ r.
    let body = c.args.body.now in
    both_ok c.append_unnamed.result _ _ _
    (λ line real.
    line ∙ ap (λ (x : Result (List Entry) FieldFault). c.args.out.now.items ++ body_text c.args.direction body x)
    (sym (fault_is c.one_fault.ensures.determined c.one_fault.ensures.none body (r.fields body) (r.are_fields body) c.in-Err.fault real c.in-Err.ensures.read)))
    c.append_unnamed.ensures.line c.append_unnamed.ensures.real
