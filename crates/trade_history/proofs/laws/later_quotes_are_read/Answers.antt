use Rattle.std.proofs.Common.{refl}
use Rattle.trade_history.proofs.RoomReads.{later-read}
use Rattle.trade_history.proofs.laws.later_quotes_are_read.Goals as goal

pub returns : goal.returns
returns c = record {
  none = λ n. refl;
  more = later-read;
}
