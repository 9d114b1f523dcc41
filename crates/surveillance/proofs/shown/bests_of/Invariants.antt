use Rattle.std.proofs.Common.{◌≡◌, ℕ, take}
use Rattle.surveillance.specs.Kept.{with_last}
use Rattle.surveillance.specs.ShownBest.{best_at}
use Rattle.surveillance.proofs.shown.bests_of.Given as goal

-- the best of the prices so far
abbrev pub invariant-loop-price : goal.invariant-loop-price
invariant-loop-price l = (row : ℕ) → with_last l.bests.entries l.last row ≡ best_at (take l.price-index l.shown) row
