use Rattle.std.proofs.Common.{◌≡◌, ◌<◌, ℕ, List, [], All, length}
use Rattle.trade_reconstruction.proofs.events.empty.Given as goal

abbrev pub invariant-loop : goal.invariant-loop
invariant-loop l = (0 < length l.buckets.items) × All (λ (places : List ℕ). places ≡ []) l.buckets.items
