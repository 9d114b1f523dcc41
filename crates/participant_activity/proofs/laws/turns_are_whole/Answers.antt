use Rattle.participant_activity.proofs.Turning.{kept_is_of_turns, turns_are_owed, turns_are_sent}
use Rattle.participant_activity.proofs.laws.turns_are_whole.Goals as goal

pub returns-clause-sent : goal.returns-clause-sent
returns-clause-sent c = turns_are_sent

pub returns-clause-owed : goal.returns-clause-owed
returns-clause-owed c = turns_are_owed

pub returns-clause-kept : goal.returns-clause-kept
returns-clause-kept c = kept_is_of_turns
