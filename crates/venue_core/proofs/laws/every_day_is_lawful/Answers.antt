use Rattle.venue_core.proofs.Running.{day-run}
use Rattle.venue_core.proofs.laws.every_day_is_lawful.Goals as goal

pub returns-clause-run : goal.returns-clause-run
returns-clause-run c = day-run

pub returns-clause-lawful : goal.returns-clause-lawful
returns-clause-lawful c = λ m is. c.every_run_is_lawful.ensures m is
