use Rattle.participant_activity.proofs.Ends as ends
use Rattle.participant_activity.proofs.laws.ends_are_whole.Goals as goal

pub returns : goal.returns
returns c = ends.ends_are_whole
