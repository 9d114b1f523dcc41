use Rattle.trade_history.proofs.RoomReads.{one-more-read}
use Rattle.trade_history.proofs.laws.first_quote_is_read.Goals as goal

pub returns : goal.returns
returns c = one-more-read
