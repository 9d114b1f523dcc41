use Rattle.trade_reconstruction.proofs.Messages.{messages_are_of_rows}
use Rattle.trade_reconstruction.proofs.laws.each_message_is_that_of_its_row.Goals as goal

pub returns : goal.returns
returns c = messages_are_of_rows
