use Rattle.std.proofs.Common.{◌∙◌, append-nil, append_assoc}
use Rattle.std.proofs.lemmas.Result.{on_ok_weaker}
use Rattle.trade_reconstruction.proofs.room.append_id.Goals as goal

pub returns : goal.returns
returns c = (on_ok_weaker c.append.result (λ e. e ∙ simp (c.in_ok-append_number.ensures, c.as_slice.ensures.value, append-nil, append_assoc)) c.append.ensures)
