use Rattle.std.proofs.Common.{◌∙◌}
use Rattle.std.proofs.lemmas.Result.{on_ok_weaker}
use Rattle.message_words.proofs.prices.append_unprocessed.Goals as goal

pub returns : goal.returns
returns c = on_ok_weaker c.append_parts.result (λ e. e ∙ simp (c.number.ensures, c.from.ensures, c.get.ensures.value, c.bytes.ensures, c.as_slice.ensures.value, c.number-2.ensures, c.from-2.ensures, c.get-2.ensures.value, c.text_value.ensures)) c.append_parts.ensures
