use Rattle.std.proofs.Common.{◌≡◌, ℕ, List, ◌++◌, length, ap, ◌∙◌, decimal}
use Rattle.frame_explanation.specs.Broken.{length_line, sum_of}
use Rattle.frame_explanation.proofs.Outcomes.{so_ok}
use Rattle.frame_explanation.proofs.broken.append_wrong_length.Goals as goal

pub returns : goal.returns
returns c =
    let old = c.args.out.now.items in
    let body = c.args.body.now in
    let digits : c.as_bytes.result.now ≡ decimal (length body) = c.as_bytes.ensures.value ∙ c.format.ensures.text in
    so_ok c.append_parts.result _ _
    (λ e. e
    ∙ ap (λ (l : List ℕ). old ++ length_line c.deref.result.now (length body) l) (c.in_ok-right.ensures ∙ ap (λ (d : List ℕ). sum_of d body) digits)
    ∙ ap (λ (l : List ℕ). old ++ length_line l (length body) (sum_of (decimal (length body)) body)) (c.deref.ensures.value ∙ c.in_ok-stated.ensures))
    c.append_parts.ensures
