use Rattle.std.proofs.Common.{List, ap, ◌∙◌, arith}
use Rattle.std.proofs.lemmas.List.{take_all}
use Rattle.frame_explanation.specs.declared.log_items.Heard.{Heard}
use Rattle.frame_explanation.specs.Ignored.{ignored}
use Rattle.frame_explanation.proofs.ignored.ignored_tags.Goals as goal

pub returns : goal.returns
returns c = λ r. c.loop-one.invariant r ∙ ap (λ (l : List Heard). ignored r l) (take_all c.loop-one.one-index c.args.heard.now (omega (arith, c.loop-one-test.false)))
