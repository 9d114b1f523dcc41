use Rattle.std.proofs.Common.{◌≡◌, ℕ, List, ◌++◌, ap, ◌∙◌, arith}
use Rattle.std.specs.List.{flat_map}
use Rattle.std.proofs.lemmas.List.{take_all}
use Rattle.frame_explanation.specs.declared.log_items.Sent as held
use Rattle.frame_explanation.specs.Text.{sent_text}
use Rattle.frame_explanation.proofs.text.append_each_sent.Goals as goal

pub returns : goal.returns
returns c = λ r.
    c.loop-one.invariant r
    ∙ ap (λ (l : List held.Sent). c.args.out.now.items ++ flat_map (sent_text r c.args.names.now) l) (take_all c.loop-one.one-index c.args.sent.now (omega (arith, c.loop-one-test.false)))
