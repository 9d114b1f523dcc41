use Rattle.std.proofs.Common.{◌∙◌, append-nil, append_assoc}
use Rattle.std.proofs.lemmas.Result.{on_ok_weaker}
use Rattle.trade_reconstruction.proofs.evidence.append_trade.Goals as goal

pub returns : goal.returns
returns c = (on_ok_weaker c.append_row.result (λ e. e ∙ simp (c.in_ok-append_row_moment.ensures, c.in_ok-append_deal.ensures, c.in_ok-append.ensures, c.in_ok-append_number.ensures, append-nil, append_assoc)) c.append_row.ensures)
