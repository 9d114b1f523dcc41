use Rattle.std.proofs.Common.{◌∙◌}
use Rattle.std.proofs.lemmas.Result.{on_ok_weaker}
use Rattle.resting_orders.proofs.book.append_rested_line.Goals as goal

pub returns : goal.returns
returns c =
    on_ok_weaker c.append_parts.result
    (λ e. e ∙ simp (c.quoted_side.ensures, c.bytes.ensures, c.number.ensures, c.name_at.ensures, c.bytes-2.ensures, c.as_slice.ensures.value, c.bytes-3.ensures, c.get.ensures.value, c.number-2.ensures, c.number-3.ensures, c.number-4.ensures, c.number-5.ensures, c.bytes-4.ensures)) c.append_parts.ensures
