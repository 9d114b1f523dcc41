-- The form of a UTC text as a computable test. The law `test_decides` says that it decides `IsUtc`.
use Rattle.std.specs.Prelude.{ℕ, ◌==◌, Bool, true, ◌&&◌, nat_lt, nat_le, if◌then◌else◌, List, [], ◌∷◌, length, drop, slice_index, pos}
use Rattle.std.specs.List.{list_all}
use Rattle.jiff_core.specs.Calendar.{days_in_month}
use Rattle.sef_moment.specs.Utc.{pattern, two_at, year_in, moment_of, greatest}

abbrev pub is_digit : ℕ → Bool
is_digit c = nat_le 48 c && nat_le c 57

-- a digit where the pattern has 0, else the pattern's own byte
abbrev pub matches : ℕ → ℕ → Bool
matches p c = if p == 48 then is_digit c else c == p

abbrev pub begins_as : List ℕ → List ℕ → Bool
begins_as [] text = true
begins_as (p ∷ ps) text = matches p (slice_index text 0) && begins_as ps (drop 1 text)

-- nothing, or a point and up to nine digits
abbrev pub is_fraction : List ℕ → Bool
is_fraction [] = true
is_fraction (c ∷ cs) = (c == 46) && (nat_le (length cs) 9 && list_all is_digit cs)

abbrev pub is_date : ℕ → ℕ → ℕ → Bool
is_date year month day = (nat_le 1970 year && nat_le year 9999) && ((nat_le 1 month && nat_le month 12)
    && (nat_le 1 day && nat_le day (days_in_month (pos year) month)))

unfoldable pub is_utc : List ℕ → Bool
is_utc text = (begins_as pattern text && is_fraction (drop 17 text))
    && (is_date (year_in text) (two_at text 4) (two_at text 6)
    && ((nat_lt (two_at text 9) 24 && nat_lt (two_at text 12) 60)
    && (nat_le (two_at text 15) 60 && nat_le (moment_of text) greatest)))
