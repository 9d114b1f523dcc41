use Rattle.std.proofs.Common.{◌≡◌, ◌++◌, ℕ, length, ap, ◌∙◌, arith}
use Rattle.trail_comparison.specs.Trades.{alone_at, trade_lines}
use Rattle.trail_comparison.proofs.Alone.{one_more_count, one_more_text}
use Rattle.trail_comparison.proofs.trades.append_alone.Goals as goal

pub loop-trade-preserved : goal.loop-trade-preserved
loop-trade-preserved c =
    let k = c.args.compared.now in
    let i = c.loop-trade.trade-index in
    let t = c.trade-item.result in
    let inv = c.loop-trade.invariant in
    let e = c.in_ok-count.ensures in
    let text = c.loop-trade.text.items in
    let here : c.append_if_alone.new.text.items ≡ text ++ trade_lines k.label.now k.venue.now.market (alone_at k.all.now k.others.now i t) =
    e.text ∙ ap (λ (j : ℕ). text ++ trade_lines k.label.now k.venue.now.market (alone_at k.all.now k.others.now j t)) inv.0 in
    let counted : c.in_ok-count.field-0 ≡ length (alone_at k.all.now k.others.now i t) = e.count ∙ ap (λ (j : ℕ). length (alone_at k.all.now k.others.now j t)) inv.0 in (
      omega (arith, inv.0),
      omega (arith, inv.1, e.bound),
      one_more_text k.label.now k.venue.now.market k.all.now k.others.now i t text c.append_if_alone.new.text.items _ c.loop-trade-test.true c.trade-item.is here inv.2,
      one_more_count k.all.now k.others.now i t c.loop-trade.count c.in_ok-count.field-0 _ c.loop-trade-test.true c.trade-item.is counted inv.3,
    )
