use Rattle.std.proofs.Common.{◌≡◌, map, take}
use Rattle.venue_main.proofs.market.delays_of.Given as goal

abbrev pub invariant-loop-place : goal.invariant-loop-place
invariant-loop-place l = l.delays.items ≡ take l.place (map (λ i. i.delay) l.instruments)
