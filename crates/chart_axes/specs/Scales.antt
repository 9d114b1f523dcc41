-- Where a moment and a price are on a chart: in ten thousandths of its width from the left, and in pixels from the
-- top.
use Rattle.std.specs.Prelude.{ℕ, ◌+◌, ◌-◌, ◌*◌, ◌/◌, min, max, ℤ, int_lt, Bool, List, Some, codes, decimal, if◌then◌else◌}
use Rattle.day_tables.specs.Values.{are_dated}
use Rattle.chart_axes.specs.declared.scale.Scale.{Scale}
use Rattle.chart_axes.specs.Ranges.{distance}

-- a trail of several dates
abbrev pub has_dates : Scale → Bool
has_dates s = are_dated (Some s.first) (Some s.last)

-- milliseconds from the first row to the last
abbrev pub length_of : Scale → ℕ
length_of s = s.last - s.first

-- and from the first row to a moment, which is that of a row
abbrev pub passed : Scale → ℕ → ℕ
passed s t = min (t - s.first) (length_of s)

-- from 100 to 9900
abbrev pub across : Scale → ℕ → ℕ
across s t = 100 + 9800 * passed s t / max 1 (length_of s)

-- the part of n equal parts of the day in which a moment is, from 0
abbrev pub part_of : Scale → ℕ → ℕ → ℕ
part_of s n t = n * passed s t / (length_of s + 1)

-- from 12 at the highest price to 192 at the lowest
abbrev pub down : Scale → ℤ → ℕ
down s p = 12 + 180 * distance s.range.high p / max 1 (distance s.range.high s.range.low)

-- of a price beyond the range a place outside the frame, which cuts its line
abbrev pub height_text : Scale → ℤ → List ℕ
height_text s p = if int_lt s.range.high p then codes "-9" else (if int_lt p s.range.low then codes "213" else decimal (down s p))
