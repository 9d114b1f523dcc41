use Rattle.std.proofs.Common.{◌≡◌, ℕ, List, ◌++◌, OnOk, ◌∙◌, subst}
use Rattle.frame_explanation.specs.Bodies.{body_fault}
use Rattle.frame_explanation.specs.Summary.{of_frame}
use Rattle.frame_explanation.proofs.summary.append_body_fault.Goals as goal

pub returns : goal.returns
returns c = λ r.
    let same : c.deref.result.now ≡ body_fault (r.fields c.args.body.now) = c.deref.ensures.value ∙ c.in_ok-lines.ensures r in
    subst (λ (l : List ℕ). OnOk c.append_of_frame.result (c.append_of_frame.new.out.items ≡ c.args.out.now.items ++ of_frame c.args.number l)) same c.append_of_frame.ensures
