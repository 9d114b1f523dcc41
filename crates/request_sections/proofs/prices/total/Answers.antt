use Rattle.std.proofs.Common.{◌≡◌, ◌+◌, ◌∙◌, ℕ, arith, ap, sym}
use Rattle.std.specs.List.{sum_by}
use Rattle.day_events.specs.declared.shown.ShownPrice.{ShownPrice}
use Rattle.day_tables.proofs.Walks.{sums_on, sums_out}
use Rattle.request_sections.proofs.prices.total.Goals as goal

pub loop-price-preserved : goal.loop-price-preserved
loop-price-preserved c = (
  sums_on (λ (x : ShownPrice). x.left) c.args.prices.now c.loop-price.price-index c.price-item.result c.loop-price.total _ (sum_by (λ (x : ShownPrice). x.left) c.args.prices.now) c.loop-price-test.true c.price-item.is
      (ap (λ (n : ℕ). c.loop-price.total + n) (c.from-total.ensures ∙ c.get.ensures.value)) c.loop-price.invariant.0,
  omega (arith, c.loop-price.invariant.1, c.from-total.ensures, c.get.type_inv),
)

pub returns : goal.returns
returns c = sums_out (λ (x : ShownPrice). x.left) c.args.prices.now c.loop-price.price-index c.loop-price.total (sum_by (λ (x : ShownPrice). x.left) c.args.prices.now) c.loop-price-test.false c.loop-price.invariant.0
