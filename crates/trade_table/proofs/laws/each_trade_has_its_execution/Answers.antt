use Rattle.trade_table.proofs.Executed.{trades_have_executions}
use Rattle.trade_table.proofs.laws.each_trade_has_its_execution.Goals as goal

pub returns : goal.returns
returns c = trades_have_executions
