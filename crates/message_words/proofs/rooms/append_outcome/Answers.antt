use Rattle.std.proofs.Common.{◌∙◌}
use Rattle.std.proofs.lemmas.Result.{on_ok_weaker}
use Rattle.message_words.proofs.rooms.append_outcome.Goals as goal

pub returns : goal.returns
returns c = on_ok_weaker c.append_parts.result (λ e. e ∙ simp (c.bytes.ensures, c.identifier_value.ensures, c.identifier_value-2.ensures, c.identifier_value-3.ensures, c.bytes-2.ensures, c.outcome_name.ensures, c.number_value.ensures, c.text_value.ensures)) c.append_parts.ensures
