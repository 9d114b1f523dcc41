use Rattle.std.proofs.Common.{◌∙◌, append_assoc}
use Rattle.std.proofs.lemmas.Result.{on_ok_weaker}
use Rattle.trade_reconstruction.proofs.room.append_quote_id.Goals as goal

pub returns-in_ok-append_id-in-Some : goal.returns-in_ok-append_id-in-Some
returns-in_ok-append_id-in-Some c =
    rw c.in-Some.is
    (on_ok_weaker c.append_sent_row.result (λ e. e ∙ simp (c.in_ok-append_id-in-Some.ensures, append_assoc)) c.append_sent_row.ensures)
