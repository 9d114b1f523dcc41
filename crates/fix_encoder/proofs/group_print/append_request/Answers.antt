use Rattle.std.proofs.Common.{◌≡◌, ◌++◌, ◌∷◌, [], List, ℕ, sym, subst, Some, decimal, length}
use Rattle.fix_fields.specs.Fields.{Appends}
use Rattle.fix_fields.proofs.AppendLemmas.{Appends-after}
use Rattle.fix_dictionary.specs.Text.{Slot, slots_text, each_slots, entry_type_slots}
use Rattle.fix_dictionary.proofs.TextLemmas.{slots_text_append}
use Rattle.fix_encoder.proofs.group_print.append_request.Goals as goal

pub returns : goal.returns
returns c =
    let m = c.args.m.now in
    let old = c.args.out.now.items in
    let new = c.print_request_tail.new.out.items in
    let head : List Slot = (262, Some m.request_id) ∷ (263, Some (m.subscription_type ∷ [])) ∷ (264, Some (decimal m.depth)) ∷ (267, Some (decimal (length m.entry_types))) ∷ [] in
    let tail : List Slot = each_slots entry_type_slots m.entry_types ++ (146, Some (decimal 1)) ∷ (55, Some m.symbol) ∷ [] in
    let first : c.print_request_head.new.out.items ≡ old ++ slots_text head = rw c.as_slice.ensures.value at (rw c.in_ok-print_request_head.was at c.print_request_head.ensures) in
    subst (λ (l : List ℕ). Appends old new l c.print_request_tail.result) (sym (slots_text_append head tail))
    (Appends-after old new (slots_text head) (slots_text tail) c.print_request_tail.result (rw first at c.print_request_tail.ensures))
