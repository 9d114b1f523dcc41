use Rattle.std.proofs.Common.{◌≡◌, drop}
use Rattle.request_sections.specs.Shown.{rises}
use Rattle.request_sections.proofs.prices.rises.Given as goal

-- those so far come in order
abbrev pub invariant-loop-price : goal.invariant-loop-price
invariant-loop-price l = rises l.low (drop l.price-index l.shown) ≡ rises 0 l.shown
