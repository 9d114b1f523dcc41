use Rattle.std.proofs.Common.{◌∙◌, arith}
use Rattle.trade_history.proofs.TradeNumbers.{read-more, room-left}
use Rattle.trade_history.proofs.trades.append_trades.Goals as goal

pub append_trade-requires : goal.append_trade-requires
append_trade-requires c = omega (arith, room-left c.args.facts.now c.loop-fact.fact-index c.fact-item.result c.loop-fact-test.true c.fact-item.is, c.loop-fact.invariant.room)

pub loop-fact-preserved : goal.loop-fact-preserved
loop-fact-preserved c = record {
  read = read-more c.loop-fact.read.items c.append_trade.new.read.items c.args.facts.now c.loop-fact.fact-index c.fact-item.result c.loop-fact-test.true c.fact-item.is c.append_trade.ensures.items ∙ c.loop-fact.invariant.read;
  room = omega (arith, room-left c.args.facts.now c.loop-fact.fact-index c.fact-item.result c.loop-fact-test.true c.fact-item.is, c.loop-fact.invariant.room, c.append_trade.ensures.len, c.append_trade.ensures.capacity);
}
