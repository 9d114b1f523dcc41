use Rattle.std.proofs.Common.{◌≡◌, ◌-◌, ℕ}
use Rattle.page_text.specs.Parts.{with_parts}
use Rattle.day_tables.specs.Parts.{each_from}
use Rattle.instrument_charts.specs.Values.{HasEach}
use Rattle.instrument_charts.specs.Volumes.{bar_parts, most_bars}
use Rattle.instrument_charts.proofs.volume.add_bars.Given as goal

-- the parts so far, and then those of the others, are all
abbrev pub invariant-loop-part : goal.invariant-loop-part
invariant-loop-part l = (f g : ℕ → ℕ) → HasEach 0 f most_bars l.volumes.all.items → HasEach 0 g most_bars l.volumes.requests.items → with_parts l.page (each_from (bar_parts l.greatest f g) l.part (most_bars - l.part)) ≡ with_parts l.fn.page (each_from (bar_parts l.greatest f g) 0 most_bars)
