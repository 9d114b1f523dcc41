use Rattle.venue_rules.proofs.EveryRun.{lawful}
use Rattle.venue_rules.proofs.EveryRoomTrade.{room_trades_lawful}
use Rattle.venue_rules.proofs.OneTrade.{rooms_trade_once}
use Rattle.venue_rules.proofs.laws.every_room_trade_is_lawful.Goals as goal

pub returns-clause-joined : goal.returns-clause-joined
returns-clause-joined c = room_trades_lawful

pub returns-clause-followed_a_request : goal.returns-clause-followed_a_request
returns-clause-followed_a_request c = λ m is. (lawful m is).requests_come_first

pub returns-clause-prices_with_first_quote : goal.returns-clause-prices_with_first_quote
returns-clause-prices_with_first_quote c = λ m is. (lawful m is).prices_come_with_first_quote

pub returns-clause-recipients_together : goal.returns-clause-recipients_together
returns-clause-recipients_together c = λ m is. (lawful m is).recipients_asked_together

pub returns-clause-once : goal.returns-clause-once
returns-clause-once c = rooms_trade_once
