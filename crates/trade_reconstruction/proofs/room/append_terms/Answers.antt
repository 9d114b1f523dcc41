use Rattle.std.proofs.Common.{◌∙◌, append-nil, append_assoc}
use Rattle.std.proofs.lemmas.Result.{on_ok_weaker}
use Rattle.trade_reconstruction.proofs.room.append_terms.Goals as goal

pub returns : goal.returns
returns c = (on_ok_weaker c.append_at.result (λ e. e ∙ simp (c.in_ok-append_quantity.ensures, c.in_ok-append.ensures, c.in_ok-append_number.ensures, c.name_at-requester.ensures, c.asked_side-side.ensures, c.get.ensures.value, append-nil, append_assoc)) c.append_at.ensures)
