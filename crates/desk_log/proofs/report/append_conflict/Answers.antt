use Rattle.std.proofs.Common.{◌∙◌, append_assoc}
use Rattle.std.proofs.lemmas.Result.{on_ok_weaker}
use Rattle.desk_log.proofs.report.append_conflict.Goals as goal

pub returns : goal.returns
returns c = on_ok_weaker c.append_text-2.result (λ e. e ∙ simp (c.in_ok-append_text.ensures, c.in_ok-append_conflict_head.ensures, append_assoc)) c.append_text-2.ensures
