use Rattle.std.proofs.Common.{codes, decimal}
use Rattle.std.proofs.lemmas.Result.{on_ok_weaker}
use Rattle.sef_moment.specs.Utc.{utc_text}
use Rattle.trade_reconstruction.proofs.Appends.{ten}
use Rattle.trade_reconstruction.proofs.book.append_held.Goals as goal

pub returns-in_ok-append_moment-in-Held : goal.returns-in_ok-append_moment-in-Held
returns-in_ok-append_moment-in-Held c =
    let w = c.args.word.now in
    rw c.in-Held.is
    (on_ok_weaker c.append_sent_row.result
    (λ e. ten _ _ _ _ _ _ (codes "O") (decimal c.args.order) (codes " was held as the second side of cross ") _ _ (codes " for ") _ (codes " ms from ") (utc_text w.moment) _
    c.in_ok-append_number-in-Held.ensures c.in_ok-append-in-Held.ensures c.as_slice.ensures.value c.in_ok-append_number-in-Held-2.ensures c.in_ok-append_moment-in-Held.ensures
    e)
    c.append_sent_row.ensures)
