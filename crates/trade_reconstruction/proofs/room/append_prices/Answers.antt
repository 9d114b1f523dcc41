use Rattle.std.proofs.Common.{◌∙◌, append-nil, append_assoc}
use Rattle.std.proofs.lemmas.Result.{on_ok_weaker}
use Rattle.trade_reconstruction.proofs.room.append_prices.Goals as goal

pub returns : goal.returns
returns c = (on_ok_weaker c.append_price_or_none-2.result (λ e. e ∙ simp (c.in_ok-append-2.ensures, c.in_ok-append_price_or_none.ensures, c.in_ok-append.ensures, append-nil, append_assoc)) c.append_price_or_none-2.ensures)
