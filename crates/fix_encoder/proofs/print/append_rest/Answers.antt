use Rattle.std.proofs.Common.{◌≡◌, ◌++◌, List, ℕ, sym, subst}
use Rattle.fix_fields.specs.Fields.{Appends}
use Rattle.fix_fields.proofs.AppendLemmas.{Appends-after}
use Rattle.fix_dictionary.specs.Lent.{lent_body, lent_header}
use Rattle.fix_dictionary.specs.Text.{slots_text, header_slots, body_slots}
use Rattle.fix_dictionary.proofs.TextLemmas.{slots_text_append}
use Rattle.fix_encoder.proofs.print.append_rest.Goals as goal

pub returns-clause-text : goal.returns-clause-text
returns-clause-text c =
    let old = c.args.out.now.items in
    let new = c.append_body.new.out.items in
    let head = header_slots (lent_header c.args.header.now) in
    let tail = body_slots (lent_body c.args.body) in
    let first : c.print_header.new.out.items ≡ old ++ slots_text head = rw c.in_ok-print_header.was at c.print_header.ensures.text in
    subst (λ (l : List ℕ). Appends old new l c.append_body.result) (sym (slots_text_append head tail))
    (Appends-after old new (slots_text head) (slots_text tail) c.append_body.result (rw first at c.append_body.ensures.text))
