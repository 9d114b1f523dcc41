use Rattle.std.proofs.Common.{◌≡◌, ◌++◌, ◌∷◌, [], List, ℕ, sym, subst, Some, decimal, length}
use Rattle.fix_fields.specs.Fields.{Appends}
use Rattle.fix_fields.proofs.AppendLemmas.{Appends-after}
use Rattle.fix_dictionary.specs.Text.{Slot, slots_text, each_slots, market_data_entry_slots}
use Rattle.fix_dictionary.proofs.TextLemmas.{slots_text_append}
use Rattle.fix_encoder.proofs.group_print.append_snapshot.Goals as goal

pub returns : goal.returns
returns c =
    let m = c.args.m.now in
    let old = c.args.out.now.items in
    let new = c.print_entries.new.out.items in
    let head : List Slot = (262, Some m.request_id) ∷ (55, Some m.symbol) ∷ (268, Some (decimal (length m.entries))) ∷ [] in
    let tail : List Slot = each_slots market_data_entry_slots m.entries in
    let first : c.print_snapshot_head.new.out.items ≡ old ++ slots_text head = rw c.as_slice-list.ensures.value at (rw c.in_ok-print_snapshot_head.was at c.print_snapshot_head.ensures) in
    subst (λ (l : List ℕ). Appends old new l c.print_entries.result) (sym (slots_text_append head tail))
    (Appends-after old new (slots_text head) (slots_text tail) c.print_entries.result (rw first at (rw c.as_slice-list.ensures.value at c.print_entries.ensures)))
