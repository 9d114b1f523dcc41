use Rattle.std.proofs.Common.{ℕ, List, ◌++◌, ap, ◌∙◌}
use Rattle.frame_explanation.specs.Broken.{sum_line, sum_of}
use Rattle.frame_explanation.proofs.Outcomes.{so_ok}
use Rattle.frame_explanation.proofs.broken.append_wrong_sum.Goals as goal

pub returns : goal.returns
returns c =
    let old = c.args.out.now.items in
    so_ok c.append_parts.result _ _
    (λ e. e
    ∙ ap (λ (l : List ℕ). old ++ sum_line c.deref.result.now l) c.in_ok-right.ensures
    ∙ ap (λ (l : List ℕ). old ++ sum_line l (sum_of c.args.digits.now c.args.body.now)) (c.deref.ensures.value ∙ c.in_ok-stated.ensures))
    c.append_parts.ensures
