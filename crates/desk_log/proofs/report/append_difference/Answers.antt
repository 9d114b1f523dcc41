use Rattle.std.proofs.Common.{◌∙◌, append_assoc}
use Rattle.std.proofs.lemmas.Result.{on_ok_weaker}
use Rattle.desk_log.proofs.report.append_difference.Goals as goal

pub returns : goal.returns
returns c =
    on_ok_weaker c.append_logged_at.result (λ e. e ∙ simp (c.in_ok-append_owed.ensures, c.in_ok-append_gaps.ensures, c.in_ok-append_differs_head.ensures, append_assoc)) c.append_logged_at.ensures
