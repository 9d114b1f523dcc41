use Rattle.std.proofs.Common.{◌∙◌}
use Rattle.std.proofs.lemmas.Result.{on_ok_weaker}
use Rattle.refusal_causes.proofs.linking.append_link_parts.Goals as goal

pub returns : goal.returns
returns c = on_ok_weaker c.append_parts.result (λ e. e ∙ simp (c.bytes.ensures, c.as_slice.ensures.value, c.bytes-2.ensures)) c.append_parts.ensures
