use Rattle.std.proofs.Common.{◌≡◌, ◌++◌, ◌∷◌, [], List, ℕ, ◌+◌, ◌<◌, take, length, ap, sym, ◌∙◌, append_assoc, arith}
use Rattle.fix_dictionary.specs.Text.{slots_text}
use Rattle.fix_encoder.specs.Printed.{slots}
use Rattle.fix_encoder.specs.declared.print.Slot as values
use Rattle.fix_encoder.proofs.TextLemmas.{slots_take}
use Rattle.fix_encoder.proofs.print.append_slots.Goals as goal

pub loop-slot-preserved : goal.loop-slot-preserved
loop-slot-preserved c =
    let list = c.args.list.now in
    let i = c.loop-slot.slot-index in
    let item = c.slot-item.result in
    let old = c.args.out.now.items in
    let one = slots_text (slots (item ∷ [])) in
    let appended : c.append_optional.new.out.items ≡ c.loop-slot.out.items ++ one = rw c.in_ok-append_optional.was at c.append_optional.ensures in
    let inside : i < length list = omega (arith, c.loop-slot-test.true) in
    let more : slots_text (slots (take (i + 1) list)) ≡ slots_text (slots (take i list)) ++ one =
    slots_take list i item inside ∙ ap (λ (x : values.Slot). slots_text (slots (take i list)) ++ slots_text (slots (x ∷ []))) (sym c.slot-item.is) in
    appended ∙ ap (λ (l : List ℕ). l ++ one) c.loop-slot.invariant
    ∙ append_assoc old (slots_text (slots (take i list))) one
    ∙ ap (λ (l : List ℕ). old ++ l) (sym more)
