use Rattle.std.proofs.Common.{◌≡◌, ◌≤◌, ◌++◌, ◌∷◌, [], List, ℕ, arith, ap, sym, ◌∙◌, length, length-append}
use Rattle.std.proofs.lemmas.List.{length-map}
use Rattle.std.proofs.lemmas.Grind.{common_steps}
use Rattle.fix_fields.specs.Fields.{fields_text}
use Rattle.fix_fields.specs.Views.{entry, entries}
use Rattle.fix_fields.proofs.FieldLemmas.{fields_text-push, AreFields-push, entries-push}
use Rattle.fix_fields.proofs.fields.Fields.read.Goals as goal

pub loop-rest-preserved : goal.loop-rest-preserved
loop-rest-preserved c =
    let items = c.loop-rest.self-inside.items.items in
    let field = c.in_ok-field.field in
    let pushed : c.push.new.self.items ≡ items ++ field ∷ [] = grind (arith, common_steps) in
    let same : entries c.push.new.self.items ≡ entries items ++ entry field ∷ [] = ap entries pushed ∙ entries-push items field in
    let front = c.in_ok-field.ensures in
    rw same record {
      fields = AreFields-push (entries items) (entry field) c.loop-rest.invariant.fields front.0;
      headroom = omega (arith, c.loop-rest.invariant.headroom, c.push.ensures.capacity);
      text = c.loop-rest.invariant.text ∙ ap (λ (l : List ℕ). fields_text (entries items) ++ l) front.1 ∙ sym (fields_text-push (entries items) (entry field) c.in_ok-field.after.now);
    }

pub returns-then-is_err-clause-few : goal.returns-then-is_err-clause-few
returns-then-is_err-clause-few c = λ _.
    let items = c.loop-rest.self-inside.items.items in
    let field = c.in_ok-field.field in
    let front = c.in_ok-field.ensures in
    let full : 64 ≤ length items = grind (arith, common_steps) in
    let many : 65 ≤ length (entries items ++ entry field ∷ []) = omega (arith, full, length-append (entries items) (entry field ∷ []), length-map items entry) in
    let text : c.args.body.now ≡ fields_text (entries items ++ entry field ∷ []) ++ c.in_ok-field.after.now =
    c.loop-rest.invariant.text ∙ ap (λ (l : List ℕ). fields_text (entries items) ++ l) front.1 ∙ sym (fields_text-push (entries items) (entry field) c.in_ok-field.after.now) in
    (entries items ++ entry field ∷ [], c.in_ok-field.after.now, AreFields-push (entries items) (entry field) c.loop-rest.invariant.fields front.0, text, many)
