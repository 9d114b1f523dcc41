-- Rows of a trail, by their numbers.
use Rattle.std.specs.Prelude.{ℕ, Bool, true, ◌&&◌, nat_le, List, take, Option, None, Some}
use Rattle.venue_rules.specs.declared.trail.TrailRow.{TrailRow}

-- a trail of that many rows has this one, if one is named
abbrev pub is_row : Option ℕ → ℕ → Bool
is_row None count = true
is_row (Some n) count = nat_le 1 n && nat_le n count

-- the rows up to this one, or all
abbrev pub rows_until : Option ℕ → List TrailRow → List TrailRow
rows_until None rows = rows
rows_until (Some n) rows = take n rows
