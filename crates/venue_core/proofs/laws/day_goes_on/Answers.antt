use Rattle.venue_core.proofs.Running.{applied, replies-on, stands-on}
use Rattle.venue_core.proofs.laws.day_goes_on.Goals as goal

pub returns-clause-takes : goal.returns-clause-takes
returns-clause-takes c = applied

pub returns-clause-stands : goal.returns-clause-stands
returns-clause-stands c = stands-on

pub returns-clause-replies : goal.returns-clause-replies
returns-clause-replies c = replies-on
