use Rattle.std.proofs.Common.{◌≡◌, ◌++◌, ◌∷◌, [], List, ℕ, sym, subst, Some, decimal}
use Rattle.fix_fields.specs.Fields.{Appends}
use Rattle.fix_fields.proofs.AppendLemmas.{Appends-after}
use Rattle.fix_dictionary.specs.Text.{Slot, slots_text, given, side_text, each_slots, party_count, party_slots}
use Rattle.fix_dictionary.proofs.TextLemmas.{slots_text_append}
use Rattle.fix_encoder.proofs.quote_print.append_request.Goals as goal

pub returns : goal.returns
returns c =
    let m = c.args.m.now in
    let old = c.args.out.now.items in
    let new = c.print_parties.new.out.items in
    let head : List Slot = (131, Some m.request_id) ∷ (146, Some (decimal 1)) ∷ (55, Some m.symbol) ∷ (54, given side_text m.side) ∷ (38, Some (decimal m.quantity)) ∷ (453, party_count m.parties) ∷ [] in
    let tail : List Slot = each_slots party_slots m.parties in
    let first : c.print_request_head.new.out.items ≡ old ++ slots_text head = rw c.as_slice-list.ensures.value at (rw c.in_ok-print_request_head.was at c.print_request_head.ensures) in
    subst (λ (l : List ℕ). Appends old new l c.print_parties.result) (sym (slots_text_append head tail))
    (Appends-after old new (slots_text head) (slots_text tail) c.print_parties.result (rw first at (rw c.as_slice-list.ensures.value at c.print_parties.ensures)))
