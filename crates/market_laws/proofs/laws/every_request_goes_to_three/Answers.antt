use Rattle.market_laws.proofs.Asked.{requests_go_to_three}
use Rattle.market_laws.proofs.Sent.{only_recipients_are_asked}
use Rattle.market_laws.proofs.laws.every_request_goes_to_three.Goals as goal

pub returns-clause-to_three : goal.returns-clause-to_three
returns-clause-to_three c = requests_go_to_three

pub returns-clause-to_no_other : goal.returns-clause-to_no_other
returns-clause-to_no_other c = only_recipients_are_asked
