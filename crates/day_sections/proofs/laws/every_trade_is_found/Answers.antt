use Rattle.day_sections.proofs.Found.{trades_are_found}
use Rattle.day_sections.proofs.laws.every_trade_is_found.Goals as goal

pub returns : goal.returns
returns c = trades_are_found c.every_trade_has_its_events.ensures
