use Rattle.venue_rules.proofs.MoreInputLemmas.{history_goes_on, owed_goes_on, replies_go_on, rows_go_on, timely_goes_on}
use Rattle.venue_rules.proofs.laws.run_goes_on.Goals as goal

pub returns-clause-history : goal.returns-clause-history
returns-clause-history c = history_goes_on

pub returns-clause-replies : goal.returns-clause-replies
returns-clause-replies c = replies_go_on

pub returns-clause-owed : goal.returns-clause-owed
returns-clause-owed c = owed_goes_on

pub returns-clause-timely : goal.returns-clause-timely
returns-clause-timely c = timely_goes_on

pub returns-clause-rows : goal.returns-clause-rows
returns-clause-rows c = rows_go_on
