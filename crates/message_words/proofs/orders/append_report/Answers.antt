use Rattle.std.proofs.Common.{◌∙◌}
use Rattle.std.proofs.lemmas.Result.{on_ok_weaker}
use Rattle.message_words.proofs.orders.append_report.Goals as goal

pub returns : goal.returns
returns c = on_ok_weaker c.append_parts.result (λ e. e ∙ simp (c.bytes.ensures, c.as_slice.ensures.value, c.report_number.ensures, c.report_known_as.ensures, c.holder.ensures, c.identifier_value.ensures, c.to_side.ensures, c.bytes-2.ensures, c.as_slice-2.ensures.value, c.bytes-3.ensures, c.report_kind.ensures, c.quantity_value.ensures, c.price_value.ensures, c.identifier_value-2.ensures, c.number.ensures, c.get.ensures.value, c.number-2.ensures, c.get-2.ensures.value, c.identifier_value-3.ensures, c.identifier_value-4.ensures, c.number_value.ensures, c.text_value.ensures)) c.append_parts.ensures
