use Rattle.fix_session.proofs.Shorter.{steps_shorten}
use Rattle.fix_session.proofs.laws.steps_shorten.Goals as goal

pub returns : goal.returns
returns c = steps_shorten
