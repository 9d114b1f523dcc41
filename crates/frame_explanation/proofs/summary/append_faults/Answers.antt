use Rattle.std.proofs.Common.{◌≡◌, ℕ, List, ◌++◌, ap, ◌∙◌, arith}
use Rattle.std.specs.List.{flat_map}
use Rattle.std.proofs.lemmas.List.{take_all}
use Rattle.frame_explanation.specs.declared.log_items.Heard.{Heard}
use Rattle.frame_explanation.specs.Summary.{faults_of}
use Rattle.frame_explanation.proofs.summary.append_faults.Goals as goal

pub returns : goal.returns
returns c = λ r.
    c.loop-one.invariant r
    ∙ ap (λ (l : List Heard). c.args.out.now.items ++ flat_map (faults_of r c.args.names.now) l) (take_all c.loop-one.one-index c.args.heard.now (omega (arith, c.loop-one-test.false)))
