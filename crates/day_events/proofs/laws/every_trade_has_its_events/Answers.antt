use Rattle.day_events.proofs.TradeEvents.{events_report}
use Rattle.day_events.proofs.laws.every_trade_has_its_events.Goals as goal

pub returns : goal.returns
returns c = events_report c.every_trade_is_reported_twice.ensures
