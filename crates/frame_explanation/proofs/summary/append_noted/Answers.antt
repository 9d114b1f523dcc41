use Rattle.std.proofs.Common.{◌≡◌, ℕ, List, ◌++◌, OnOk, ◌∙◌, subst}
use Rattle.frame_explanation.specs.Summary.{headed, noted}
use Rattle.frame_explanation.proofs.summary.append_noted.Goals as goal

pub returns : goal.returns
returns c = λ r.
    let same : c.deref.result.now ≡ noted r c.args.names.now c.args.heard.now = c.deref.ensures.value ∙ c.in_ok-lines.ensures r in
    subst (λ (l : List ℕ). OnOk c.append_headed.result (c.append_headed.new.out.items ≡ c.args.out.now.items ++ headed l)) same c.append_headed.ensures
