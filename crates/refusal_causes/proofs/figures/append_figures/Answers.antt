use Rattle.std.proofs.Common.{◌∙◌}
use Rattle.std.proofs.lemmas.Result.{on_ok_weaker}
use Rattle.refusal_causes.proofs.figures.append_figures.Goals as goal

pub returns : goal.returns
returns c = on_ok_weaker c.append_parts.result (λ e. e ∙ simp (c.identifier_value.ensures, c.identifier_value-2.ensures, c.price_value.ensures, c.price_value-2.ensures, c.count_value.ensures, c.count_value-2.ensures, c.count_value-3.ensures)) c.append_parts.ensures
