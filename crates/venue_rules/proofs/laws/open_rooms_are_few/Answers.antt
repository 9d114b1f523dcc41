use Rattle.venue_rules.proofs.LiveQuotes.{live_quotes_few}
use Rattle.venue_rules.proofs.OpenRoomsEach.{open_rooms_few}
use Rattle.venue_rules.proofs.Emitted.{withdrawals_few}
use Rattle.venue_rules.proofs.laws.open_rooms_are_few.Goals as goal

pub returns-clause-rooms : goal.returns-clause-rooms
returns-clause-rooms c = open_rooms_few

pub returns-clause-quotes : goal.returns-clause-quotes
returns-clause-quotes c = live_quotes_few

pub returns-clause-withdrawals : goal.returns-clause-withdrawals
returns-clause-withdrawals c = withdrawals_few
