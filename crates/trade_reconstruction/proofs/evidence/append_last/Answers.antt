use Rattle.std.proofs.Common.{◌∙◌, append_assoc}
use Rattle.std.proofs.lemmas.Result.{on_ok_weaker}
use Rattle.trade_reconstruction.proofs.evidence.append_last.Goals as goal

pub returns : goal.returns
returns c = (on_ok_weaker c.append_trade.result (λ e. e ∙ simp (c.in_ok-append_delay_if.ensures, append_assoc)) c.append_trade.ensures)
