use Rattle.std.proofs.Common.{◌≡◌, ◌+◌, ◌*◌, ◌^◌, ◌≤◌, drop}
use Rattle.std.specs.List.{sum_by}
use Rattle.day_events.specs.declared.shown.ShownPrice.{ShownPrice}
use Rattle.request_sections.proofs.prices.total.Given as goal

-- the sum so far, and then that of the others, is the whole
abbrev pub invariant-loop-price : goal.invariant-loop-price
invariant-loop-price l = (l.total + sum_by (λ (x : ShownPrice). x.left) (drop l.price-index l.prices) ≡ sum_by (λ (x : ShownPrice). x.left) l.prices) × (l.total ≤ l.price-index * 2 ^ 64)
