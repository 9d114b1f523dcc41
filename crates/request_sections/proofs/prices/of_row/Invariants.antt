use Rattle.std.proofs.Common.{◌≡◌, ◌++◌, drop, filter}
use Rattle.std.specs.Prelude.{◌==◌}
use Rattle.day_events.specs.declared.shown.ShownPrice.{ShownPrice}
use Rattle.request_sections.proofs.prices.of_row.Given as goal

-- those that were kept, and then those of the others, are all
abbrev pub invariant-loop-price : goal.invariant-loop-price
invariant-loop-price l = l.kept.items ++ filter (λ (x : ShownPrice). x.row == l.row) (drop l.price-index l.shown) ≡ filter (λ (x : ShownPrice). x.row == l.row) l.shown
