use Rattle.std.proofs.Common.{◌∙◌, append-nil, append_assoc}
use Rattle.std.proofs.lemmas.Result.{on_ok_weaker}
use Rattle.trade_reconstruction.proofs.sent.append_sent.Goals as goal

pub returns-in_ok-append_era-in-Some : goal.returns-in_ok-append_era-in-Some
returns-in_ok-append_era-in-Some c =
    rw c.in-Some.is
    (on_ok_weaker c.append.result (λ e. e ∙ simp (c.in_ok-append_era-in-Some.ensures, c.in_ok-append_number-in-Some.ensures, c.name_at.ensures, append-nil, append_assoc)) c.append.ensures)
