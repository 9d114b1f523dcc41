use Rattle.std.proofs.Common.{◌≡◌, ◌-◌, ℕ}
use Rattle.instrument_charts.specs.Values.{HasEach}
use Rattle.instrument_charts.specs.Volumes.{greatest_from, most_bars}
use Rattle.instrument_charts.proofs.volume.greatest_of.Given as goal

abbrev pub invariant-loop-part : goal.invariant-loop-part
invariant-loop-part l = (f : ℕ → ℕ) → HasEach 0 f most_bars l.all → l.greatest ≡ greatest_from f l.part (most_bars - l.part)
