use Rattle.std.proofs.Common.{ℕ, List, ◌++◌, ap, ◌∙◌}
use Rattle.frame_explanation.proofs.Outcomes.{so_ok}
use Rattle.frame_explanation.proofs.Whys.{why_ended}
use Rattle.frame_explanation.proofs.broken.append_why.Goals as goal

pub returns : goal.returns
returns c =
    so_ok c.append_body_fault.result _ _
    (λ e. e ∙ ap (λ (l : List ℕ). c.args.out.now.items ++ l)
    (why_ended c.args.digits.now c.args.rest.now c.in-Some.sum.now c.to_trailer-length.result c.to_trailer-length.ensures.length c.in-Some.ensures c.if-not-has_soh.ensures))
    c.append_body_fault.ensures
