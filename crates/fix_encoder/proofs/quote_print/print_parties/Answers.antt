use Rattle.std.proofs.Common.{◌≡◌, ◌++◌, List, ℕ, ◌+◌, ◌<◌, take, length, ap, sym, ◌∙◌, append_assoc, arith}
use Rattle.fix_dictionary.specs.Text.{slots_text, each_slots, party_slots}
use Rattle.fix_encoder.proofs.TextLemmas.{each_take}
use Rattle.fix_encoder.proofs.quote_print.print_parties.Goals as goal

pub loop-instance-preserved : goal.loop-instance-preserved
loop-instance-preserved c =
    let list = c.args.list.now in
    let i = c.loop-instance.instance-index in
    let item = c.instance-item.result in
    let old = c.args.out.now.items in
    let one = slots_text (party_slots item) in
    let appended : c.print_party.new.out.items ≡ c.loop-instance.out.items ++ one = rw c.in_ok-print_party.was at c.print_party.ensures.text in
    let inside : i < length list = omega (arith, c.loop-instance-test.true) in
    let more : slots_text (each_slots party_slots (take (i + 1) list)) ≡ slots_text (each_slots party_slots (take i list)) ++ one =
    each_take party_slots list i item inside ∙ ap (λ x. slots_text (each_slots party_slots (take i list)) ++ slots_text (party_slots x)) (sym c.instance-item.is) in
    appended ∙ ap (λ (l : List ℕ). l ++ one) c.loop-instance.invariant
    ∙ append_assoc old (slots_text (each_slots party_slots (take i list))) one
    ∙ ap (λ (l : List ℕ). old ++ l) (sym more)
