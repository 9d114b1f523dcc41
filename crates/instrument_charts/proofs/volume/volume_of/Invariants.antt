use Rattle.std.proofs.Common.{◌<◌, ◌≤◌, ◌+◌, ◌-◌, ◌*◌, ◌^◌, ℕ, drop, get_or, length}
use Rattle.instrument_charts.specs.Values.{HasEach}
use Rattle.instrument_charts.specs.Volumes.{most_bars, volume_in}
use Rattle.instrument_charts.proofs.volume.volume_of.Given as goal

-- and each sum is of as many quantities at most as there were trades
abbrev pub invariant-loop-at : goal.invariant-loop-at
invariant-loop-at l = HasEach 0 (volume_in l.scale l.requests (drop l.at l.deals)) most_bars l.made.items × ((k : ℕ) → k < most_bars → get_or l.made.items k 0 + l.at * 2 ^ 64 ≤ length l.deals * 2 ^ 64)
