use Rattle.trail_digest.proofs.SameTrails.{rows_decided}
use Rattle.trail_digest.proofs.comparison.are_same_rows.Goals as goal

pub returns : goal.returns
returns c = rw c.max.ensures (rows_decided c.args.a.now c.args.b.now c.args.k c.requires)
