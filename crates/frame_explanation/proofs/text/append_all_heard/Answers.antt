use Rattle.std.proofs.Common.{◌≡◌, ℕ, List, ◌++◌, ap, ◌∙◌, arith}
use Rattle.std.specs.List.{flat_map}
use Rattle.std.proofs.lemmas.List.{take_all}
use Rattle.frame_explanation.specs.declared.log_items.Heard.{Heard}
use Rattle.frame_explanation.specs.Text.{heard_text}
use Rattle.frame_explanation.proofs.text.append_all_heard.Goals as goal

pub returns : goal.returns
returns c = λ r.
    c.loop-one.invariant r
    ∙ ap (λ (l : List Heard). c.args.out.now.items ++ flat_map (heard_text r c.args.names.now) l) (take_all c.loop-one.one-index c.args.heard.now (omega (arith, c.loop-one-test.false)))
