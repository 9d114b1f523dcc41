use Rattle.std.proofs.Common.{◌∙◌, append-nil, append_assoc}
use Rattle.std.proofs.lemmas.Result.{on_ok_weaker}
use Rattle.trade_reconstruction.proofs.book.append_sides_of.Goals as goal

pub returns-in_ok-append-in-Held : goal.returns-in_ok-append-in-Held
returns-in_ok-append-in-Held c =
    rw c.in-Held.is
    (on_ok_weaker c.append_sent_row.result
    (λ e. e ∙ simp (c.in_ok-append-in-Held.ensures, c.as_slice.ensures.value, c.in_ok-append_number-in-Held-2.ensures, c.in_ok-append_number-in-Held.ensures, append-nil, append_assoc)) c.append_sent_row.ensures)
