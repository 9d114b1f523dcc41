use Rattle.std.proofs.Common.{◌≡◌, List, ◌∙◌, IfOk, Result, ap, subst, sym}
use Rattle.fix_fields.specs.Fields.{Entry}
use Rattle.fix_fields.specs.declared.fields.FieldFault.{FieldFault}
use Rattle.frame_explanation.specs.Bodies.{words_of_body}
use Rattle.frame_explanation.proofs.Outcomes.{both_if}
use Rattle.frame_explanation.proofs.Readers.{fault_is, fields_are}
use Rattle.frame_explanation.proofs.bodies.words_of_body.Goals as goal

pub returns-in-Ok : goal.returns-in-Ok
returns-in-Ok c = λ r.
    let body = c.args.body.now in
    let read = fields_are c.one_list.ensures c.one_fault.ensures.none body (r.fields body) (r.are_fields body) _ c.in-Ok.ensures.read.0 c.in-Ok.ensures.read.1 in
    subst (λ (x : Result (List Entry) FieldFault). IfOk c.words_of_fields.result (λ text. text.items ≡ words_of_body x)) (sym read) c.words_of_fields.ensures

pub returns : goal.returns
returns c = λ r.
    let body = c.args.body.now in
    both_if c.no_field_words.result _ _ _
    (λ text empty real.
    empty ∙ ap words_of_body
    (sym (fault_is c.one_fault.ensures.determined c.one_fault.ensures.none body (r.fields body) (r.are_fields body) c.in-Err.fault real c.in-Err.ensures.read)))
    c.no_field_words.ensures.empty c.no_field_words.ensures.real
