use Rattle.std.proofs.Common.{codes}
use Rattle.std.proofs.lemmas.Result.{on_ok_weaker}
use Rattle.trade_reconstruction.proofs.Appends.{five}
use Rattle.trade_reconstruction.proofs.room.append_asked.Goals as goal

pub returns : goal.returns
returns c =
    on_ok_weaker c.append_others.result
    (λ e. five _ _ _ _ _ (codes "asked ") _ _ _ _ _ c.in_ok-append.ensures c.name_at.ensures c.in_ok-append_row.ensures c.in_ok-append_pair.ensures e)
    c.append_others.ensures
