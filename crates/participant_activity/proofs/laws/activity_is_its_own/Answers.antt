use Rattle.participant_activity.proofs.Turning as turning
use Rattle.participant_activity.proofs.Unpriced.{activity_has_no_prices}
use Rattle.participant_activity.proofs.laws.activity_is_its_own.Goals as goal

pub returns-clause-own : goal.returns-clause-own
returns-clause-own c = turning.activity_is_its_own

pub returns-clause-unpriced : goal.returns-clause-unpriced
returns-clause-unpriced c = activity_has_no_prices
