use Rattle.std.proofs.Common.{refl, arith}
use Rattle.venue_core.specs.Files.{market_of}
use Rattle.venue_core.proofs.Planning.{still-fit}
use Rattle.venue_core.proofs.messages.plan_message.Goals as goal

pub returns-clause-made : goal.returns-clause-made
returns-clause-made c = record {
  fit = still-fit (market_of c.args.market.now) c.answer_message.new.day _ c.in_ok-plan.plan (record { book = refl; rooms = refl; held = refl; quoted = refl; trades = c.reserve.ensures.kept; reports = refl }) c.in_ok-plan.ensures.fit;
  trades = record { room = omega (arith, c.trades.ensures.value, c.in_ok-reserve.ensures.room); few = omega (arith, c.trades.ensures.value, c.trades.ensures.few) };
}
