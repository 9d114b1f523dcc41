use Rattle.trade_reconstruction.proofs.Index.{no_place}
use Rattle.trade_reconstruction.proofs.events.push_at.Goals as goal

pub returns-in-None : goal.returns-in-None
returns-in-None c = no_place c.args.picked.now.items c.args.words.now c.args.place c.in-None.ensures.lookup.3
