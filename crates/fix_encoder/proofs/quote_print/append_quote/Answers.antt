use Rattle.std.proofs.Common.{◌≡◌, ◌++◌, ◌∷◌, [], List, ℕ, sym, subst, Some}
use Rattle.fix_fields.specs.Fields.{Appends}
use Rattle.fix_fields.proofs.AppendLemmas.{Appends-after}
use Rattle.fix_dictionary.specs.Text.{Slot, slots_text, given, each_slots, party_count, party_slots, quote_rest_slots}
use Rattle.fix_dictionary.proofs.TextLemmas.{slots_text_append}
use Rattle.fix_encoder.proofs.quote_print.append_quote.Goals as goal

pub returns : goal.returns
returns c =
    let m = c.args.m.now in
    let old = c.args.out.now.items in
    let new = c.print_quote_tail.new.out.items in
    let head : List Slot = (117, Some m.quote_id) ∷ (131, Some m.request_id) ∷ (537, given (λ c. c ∷ []) m.quote_type) ∷ (453, party_count m.parties) ∷ [] in
    let tail : List Slot = each_slots party_slots m.parties ++ quote_rest_slots m in
    let first : c.print_quote_head.new.out.items ≡ old ++ slots_text head = rw c.as_slice-list.ensures.value at (rw c.in_ok-print_quote_head.was at c.print_quote_head.ensures) in
    subst (λ (l : List ℕ). Appends old new l c.print_quote_tail.result) (sym (slots_text_append head tail))
    (Appends-after old new (slots_text head) (slots_text tail) c.print_quote_tail.result (rw first at (rw c.as_slice-list.ensures.value at c.print_quote_tail.ensures)))
