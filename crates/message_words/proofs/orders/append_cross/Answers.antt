use Rattle.std.proofs.Common.{◌∙◌}
use Rattle.std.proofs.lemmas.Result.{on_ok_weaker}
use Rattle.message_words.proofs.orders.append_cross.Goals as goal

pub returns : goal.returns
returns c = on_ok_weaker c.append_parts.result (λ e. e ∙ simp (c.bytes.ensures, c.as_slice.ensures.value, c.bytes-2.ensures, c.as_slice-2.ensures.value, c.price_value.ensures, c.bytes-3.ensures, c.as_slice-3.ensures.value, c.to_side.ensures, c.number.ensures, c.get.ensures.value, c.bytes-4.ensures, c.as_slice-4.ensures.value, c.to_side-2.ensures, c.number-2.ensures, c.get-2.ensures.value, c.small_number.ensures, c.get-3.ensures.value, c.small_number-2.ensures, c.get-4.ensures.value, c.other_type.ensures)) c.append_parts.ensures
