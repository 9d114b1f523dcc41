-- A range of prices.
use Rattle.std.specs.Prelude.{ℕ, ℤ, ◌-ℤ◌, unsigned_abs, Option, Some, None}
use Rattle.day_tables.specs.Bulletin.{greater, lesser}
use Rattle.chart_axes.specs.declared.range.Range.{Range}

-- between two prices
abbrev pub distance : ℤ → ℤ → ℕ
distance p q = unsigned_abs (p -ℤ q)

-- with one price more
abbrev pub covered : ℤ → Option Range → Range
covered p None = record { low = p; high = p }
covered p (Some r) = record { low = lesser p r.low; high = greater p r.high }
