use Rattle.market_laws.proofs.Quoting.{quotes_are_sent_on, recipients_are_equal, valid_quotes_are_taken}
use Rattle.market_laws.proofs.laws.every_recipient_may_answer.Goals as goal

pub returns-clause-valid_ones_taken : goal.returns-clause-valid_ones_taken
returns-clause-valid_ones_taken c = valid_quotes_are_taken

pub returns-clause-equal : goal.returns-clause-equal
returns-clause-equal c = recipients_are_equal

pub returns-clause-sent_on : goal.returns-clause-sent_on
returns-clause-sent_on c = quotes_are_sent_on
