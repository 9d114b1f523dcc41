use Rattle.trail_answers.proofs.OwedMessages.{owed_messages_owed, owed_messages_emitted}
use Rattle.trail_answers.proofs.laws.messages_are_owed.Goals as goal

pub returns-clause-owed : goal.returns-clause-owed
returns-clause-owed c = owed_messages_owed

pub returns-clause-emitted : goal.returns-clause-emitted
returns-clause-emitted c = owed_messages_emitted
