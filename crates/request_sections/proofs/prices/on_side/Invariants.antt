use Rattle.std.proofs.Common.{◌≡◌, ◌++◌, ◌==◌, drop, filter}
use Rattle.day_events.specs.declared.shown.ShownPrice.{ShownPrice}
use Rattle.request_sections.specs.Shown.{is_on}
use Rattle.request_sections.proofs.prices.on_side.Given as goal

-- those that were kept, and then those of the others, are all
abbrev pub invariant-loop-price : goal.invariant-loop-price
invariant-loop-price l = l.kept.items ++ filter (λ (x : ShownPrice). is_on l.bid x.side) (drop l.price-index l.prices) ≡ filter (λ (x : ShownPrice). is_on l.bid x.side) l.prices
