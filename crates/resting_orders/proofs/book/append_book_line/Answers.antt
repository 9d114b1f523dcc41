use Rattle.std.proofs.Common.{◌∙◌}
use Rattle.std.proofs.lemmas.Result.{on_ok_weaker}
use Rattle.resting_orders.proofs.book.append_book_line.Goals as goal

pub returns : goal.returns
returns c = on_ok_weaker c.append_parts.result (λ e. e ∙ simp (c.bytes.ensures, c.as_slice.ensures.value, c.number.ensures, c.moment_value.ensures, c.number-2.ensures, c.bytes-2.ensures)) c.append_parts.ensures
