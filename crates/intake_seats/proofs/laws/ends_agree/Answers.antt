use Rattle.intake_seats.proofs.BothEnds.{are_ahead}
use Rattle.intake_seats.proofs.laws.ends_agree.Goals as goal

pub returns : goal.returns
returns g c n s b = are_ahead n s b
