use Rattle.std.proofs.Common.{◌∙◌, append-nil, append_assoc}
use Rattle.std.proofs.lemmas.Result.{on_ok_weaker}
use Rattle.trade_reconstruction.proofs.room.append_names.Goals as goal

pub returns : goal.returns
returns c = (on_ok_weaker c.append_row.result (λ e. e ∙ simp (c.in_ok-append-2.ensures, c.in_ok-append.ensures, c.name_at-first.ensures, c.name_at-second.ensures, c.name_at-third.ensures, c.name_at-asker.ensures, append-nil, append_assoc)) c.append_row.ensures)
