use Rattle.std.proofs.Common.{◌∙◌, ◌++◌, ℕ, List, Option, ap}
use Rattle.std.specs.List.{flat_map}
use Rattle.std.proofs.lemmas.Result.{on_ok_weaker}
use Rattle.message_words.specs.Parts.{parts_text}
use Rattle.refusal_causes.specs.Printed.{linked_lines, met_lines, passing_parts, then_lines, then_number, then_symbol}
use Rattle.refusal_causes.proofs.Texts.{four}
use Rattle.refusal_causes.proofs.passing.append_known_lines.Goals as goal

pub returns : goal.returns
returns c =
    let a = c.args in
    on_ok_weaker c.append_all_then.result
    (λ e. four a.text.now.items (flat_map (met_lines a.participants.now a.who (then_number a.what.now)) a.replies.now) (linked_lines a.instruments.now a.moment a.passes (then_symbol a.what.now)) (parts_text (passing_parts a.moment a.passes))
    (flat_map (then_lines a.participants.now) a.replies.now) c.append_all_met.new.text.items c.append_linked.new.text.items c.append_passing_parts.new.text.items c.append_all_then.new.text.items
    (c.in_ok-append_all_met.ensures ∙ ap (λ (n : Option ℕ). a.text.now.items ++ flat_map (met_lines a.participants.now a.who n) a.replies.now) c.then_number-entering.ensures)
    (c.in_ok-append_linked.ensures ∙ ap (λ (s : Option (List ℕ)). c.append_all_met.new.text.items ++ linked_lines a.instruments.now a.moment a.passes s) c.then_symbol.ensures) c.in_ok-append_passing_parts.ensures e)
    c.append_all_then.ensures
