use Rattle.std.proofs.Common.{◌∙◌}
use Rattle.std.proofs.lemmas.Result.{on_ok_weaker}
use Rattle.message_words.proofs.orders.append_replacement.Goals as goal

pub returns : goal.returns
returns c = on_ok_weaker c.append_parts.result (λ e. e ∙ simp (c.bytes.ensures, c.as_slice.ensures.value, c.bytes-2.ensures, c.as_slice-2.ensures.value, c.number.ensures, c.get.ensures.value, c.price_value.ensures, c.other_type.ensures)) c.append_parts.ensures
