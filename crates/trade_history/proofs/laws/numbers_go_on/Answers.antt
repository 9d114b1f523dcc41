use Rattle.trade_history.proofs.RoomNumbers.{plan-next}
use Rattle.trade_history.proofs.laws.numbers_go_on.Goals as goal

pub returns : goal.returns
returns c = record {
  none = tt;
  more = plan-next;
}
