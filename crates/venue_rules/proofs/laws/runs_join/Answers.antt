use Rattle.venue_rules.proofs.MoreInputLemmas.{histories_join, owed_joins, replies_join, rows_join, timely_joins}
use Rattle.venue_rules.proofs.laws.runs_join.Goals as goal

pub returns-clause-history : goal.returns-clause-history
returns-clause-history c = histories_join

pub returns-clause-replies : goal.returns-clause-replies
returns-clause-replies c = replies_join

pub returns-clause-owed : goal.returns-clause-owed
returns-clause-owed c = owed_joins

pub returns-clause-timely : goal.returns-clause-timely
returns-clause-timely c = timely_joins

pub returns-clause-rows : goal.returns-clause-rows
returns-clause-rows c = rows_join
