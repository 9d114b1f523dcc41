use Rattle.std.proofs.Common.{◌∙◌}
use Rattle.std.proofs.lemmas.Result.{on_ok_weaker}
use Rattle.resting_orders.proofs.rests_text.append_quote_line.Goals as goal

pub returns : goal.returns
returns c =
    on_ok_weaker c.append_parts.result
    (λ e. e ∙ simp (c.as_slice.ensures.value, c.bytes.ensures, c.number.ensures, c.as_slice-2.ensures.value, c.bytes-2.ensures, c.as_slice-3.ensures.value, c.bytes-3.ensures, c.get.ensures.value, c.number-2.ensures, c.price_value.ensures, c.price_value-2.ensures, c.bytes-4.ensures)) c.append_parts.ensures
