use Rattle.venue_rules.proofs.Addressed.{answers_go_to_participants, replies_go_to_participants}
use Rattle.venue_rules.proofs.laws.replies_go_to_participants.Goals as goal

pub returns-clause-all : goal.returns-clause-all
returns-clause-all c = replies_go_to_participants

pub returns-clause-answer : goal.returns-clause-answer
returns-clause-answer c = answers_go_to_participants
