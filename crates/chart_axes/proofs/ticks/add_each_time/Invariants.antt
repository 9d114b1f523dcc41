use Rattle.std.proofs.Common.{◌≡◌, ◌-◌}
use Rattle.page_text.specs.Parts.{with_parts}
use Rattle.day_tables.specs.Parts.{each_from}
use Rattle.chart_axes.specs.Ticks.{time_parts, most_times}
use Rattle.chart_axes.proofs.ticks.add_each_time.Given as goal

-- the parts so far, and then those of the others, are all
abbrev pub invariant-loop-place : goal.invariant-loop-place
invariant-loop-place l = with_parts l.page (each_from (time_parts l.scale l.span) l.place (most_times - l.place)) ≡ with_parts l.fn.page (each_from (time_parts l.scale l.span) 0 most_times)
