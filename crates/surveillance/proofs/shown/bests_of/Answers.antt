use Rattle.surveillance.specs.Kept.{with_last}
use Rattle.surveillance.proofs.Showing.{best_on}
use Rattle.surveillance.proofs.shown.bests_of.Goals as goal

pub loop-price-preserved : goal.loop-price-preserved
loop-price-preserved c = λ row.
    best_on c.args.shown.now c.loop-price.price-index c.price-item.result row (with_last c.loop-price.bests.entries c.loop-price.last row) (with_last c.take_price.new.bests.entries c.in_ok-last.last row) c.loop-price-test.true
    c.price-item.is (c.loop-price.invariant row) (c.in_ok-last.ensures row)
