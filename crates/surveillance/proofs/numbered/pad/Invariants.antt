use Rattle.std.proofs.Common.{◌≡◌, ℕ, get_or, length, None}
use Rattle.surveillance.proofs.numbered.pad.Given as goal

abbrev pub invariant-loop : goal.invariant-loop
invariant-loop g l = (length l.near.items ≡ l.counter) × ((q : ℕ) → get_or l.near.items q None ≡ get_or l.fn.near.items q None)
