use Rattle.std.proofs.Common.{◌≡◌, ℕ, List, ◌++◌, OnOk, ◌∙◌, subst}
use Rattle.frame_explanation.specs.Listing.{body_of}
use Rattle.frame_explanation.specs.Text.{reply}
use Rattle.frame_explanation.proofs.text.append_found.Goals as goal

pub returns : goal.returns
returns c = λ r.
    let same : c.deref.result.now ≡ body_of c.args.bytes.now c.args.found.at c.args.found.look = c.deref.ensures.value ∙ c.in_ok-body.ensures in
    subst (λ (b : List ℕ). OnOk c.append_reply.result (c.append_reply.new.out.items ≡ c.args.out.now.items ++ reply r c.args.name.now b)) same (c.append_reply.ensures r)
