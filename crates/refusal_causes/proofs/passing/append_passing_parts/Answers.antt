use Rattle.std.proofs.Common.{◌∙◌}
use Rattle.std.proofs.lemmas.Result.{on_ok_weaker}
use Rattle.refusal_causes.proofs.passing.append_passing_parts.Goals as goal

pub returns : goal.returns
returns c = on_ok_weaker c.append_parts.result (λ e. e ∙ simp (c.number.ensures, c.apart.ensures, c.bytes.ensures)) c.append_parts.ensures
