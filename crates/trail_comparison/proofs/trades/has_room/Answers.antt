use Rattle.std.proofs.Common.{◌≡◌, ◌||◌, ◌&&◌, ◌∙◌, ℕ, ap, arith}
use Rattle.trail_comparison.specs.Trades.{is_alone, is_in_room}
use Rattle.trail_comparison.proofs.Alone.{one_more_room}
use Rattle.trail_comparison.proofs.trades.has_room.Goals as goal

pub loop-trade-preserved : goal.loop-trade-preserved
loop-trade-preserved c =
    let k = c.args.compared.now in
    let i = c.loop-trade.trade-index in
    let t = c.trade-item.result in
    let inv = c.loop-trade.invariant in (
      omega (arith, inv.0),
      one_more_room k.all.now k.others.now i t c.loop-trade.found c.is_found-next.result _ c.loop-trade-test.true c.trade-item.is
          (c.is_found-next.ensures ∙ ap (λ (j : ℕ). c.loop-trade.found || (is_in_room t && is_alone k.all.now k.others.now j t)) inv.0) inv.1,
    )
