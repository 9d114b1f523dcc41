use Rattle.std.proofs.Common.{◌∙◌}
use Rattle.std.proofs.lemmas.Result.{on_ok_weaker}
use Rattle.message_words.proofs.rooms.append_quoted.Goals as goal

pub returns : goal.returns
returns c = on_ok_weaker c.append_parts.result (λ e. e ∙ simp (c.bytes.ensures, c.as_slice.ensures.value, c.bytes-2.ensures, c.as_slice-2.ensures.value, c.bytes-3.ensures, c.as_slice-3.ensures.value, c.price_value.ensures, c.quantity_value.ensures, c.price_value-2.ensures, c.quantity_value-2.ensures, c.moment_value.ensures)) c.append_parts.ensures
