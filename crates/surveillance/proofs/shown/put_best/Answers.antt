use Rattle.std.proofs.Common.{ap, ◌∙◌}
use Rattle.surveillance.specs.Kept.{Bests, kept_at}
use Rattle.surveillance.proofs.Showing.{put_last}
use Rattle.surveillance.proofs.shown.put_best.Goals as goal

pub returns : goal.returns
returns c = λ row. ap (λ (l : Bests). kept_at l row) c.in_ok-insert.ensures.entries ∙ put_last c.args.bests.now.entries c.args.last row
