use Rattle.trade_history.proofs.RoomNumbers.{plan-alone, plan-asked, plan-first}
use Rattle.trade_history.proofs.laws.quotes_come_alone.Goals as goal

pub returns : goal.returns
returns c = record {
  alone = plan-alone;
  asked = plan-asked;
  first = plan-first;
}
