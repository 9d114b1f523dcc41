use Rattle.std.proofs.Common.{◌≡◌, List, ◌∙◌, IfOk, Result, ap, subst, sym}
use Rattle.fix_dictionary.specs.declared.kinds.MessageType.{MessageType}
use Rattle.fix_fields.specs.Fields.{Entry}
use Rattle.fix_fields.specs.declared.fields.FieldFault.{FieldFault}
use Rattle.frame_explanation.specs.Ignored.{unread_in, unread_of}
use Rattle.frame_explanation.proofs.Outcomes.{both_if}
use Rattle.frame_explanation.proofs.Readers.{fault_is, fields_are}
use Rattle.frame_explanation.proofs.ignored.unread_of.Goals as goal

pub returns-in-Ok : goal.returns-in-Ok
returns-in-Ok c = λ r.
    let body = c.args.body.now in
    let read = fields_are c.one_list.ensures c.one_fault.ensures.none body (r.fields body) (r.are_fields body) _ c.in-Ok.ensures.read.0 c.in-Ok.ensures.read.1 in
    subst (λ (x : Result (List Entry) FieldFault). IfOk c.unread_in.result (λ tags. tags.items ≡ unread_of body x)) (sym read)
    (subst (λ (k : MessageType). IfOk c.unread_in.result (λ tags. tags.items ≡ unread_in k c.read.new.self)) c.kind_of-kind.ensures c.unread_in.ensures)

pub returns : goal.returns
returns c = λ r.
    let body = c.args.body.now in
    both_if c.none_of.result _ _ _
    (λ tags empty real.
    empty ∙ ap (λ (x : Result (List Entry) FieldFault). unread_of body x)
    (sym (fault_is c.one_fault.ensures.determined c.one_fault.ensures.none body (r.fields body) (r.are_fields body) c.in-Err.fault real c.in-Err.ensures.read)))
    c.none_of.ensures.empty c.none_of.ensures.real
