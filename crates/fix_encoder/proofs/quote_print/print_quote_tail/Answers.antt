use Rattle.std.proofs.Common.{◌≡◌, ◌++◌, List, ℕ, sym, subst}
use Rattle.fix_fields.specs.Fields.{Appends}
use Rattle.fix_fields.proofs.AppendLemmas.{Appends-after}
use Rattle.fix_dictionary.specs.Text.{Slot, slots_text, each_slots, party_slots, quote_rest_slots}
use Rattle.fix_dictionary.proofs.TextLemmas.{slots_text_append}
use Rattle.fix_encoder.proofs.quote_print.print_quote_tail.Goals as goal

pub returns : goal.returns
returns c =
    let m = c.args.m.now in
    let old = c.args.out.now.items in
    let new = c.print_quote_rest.new.out.items in
    let head : List Slot = each_slots party_slots c.args.list.now in
    let tail : List Slot = quote_rest_slots m in
    let first : c.print_parties.new.out.items ≡ old ++ slots_text head = rw c.in_ok-print_parties.was at c.print_parties.ensures in
    subst (λ (l : List ℕ). Appends old new l c.print_quote_rest.result) (sym (slots_text_append head tail))
    (Appends-after old new (slots_text head) (slots_text tail) c.print_quote_rest.result (rw first at c.print_quote_rest.ensures))
