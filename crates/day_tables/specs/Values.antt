-- The values of the places of a page.
use Rattle.std.specs.Prelude.{ℕ, ◌+◌, ◌-◌, ◌/◌, ◌%◌, ℤ, Bool, false, not, List, [], ◌∷◌, ◌++◌, ◌==◌, ◌&&◌, nat_lt, nat_abs, length, take, drop, codes, decimal, Option, Some, None, if◌then◌else◌}
use Rattle.fix_fields.specs.Forms.{price_text}

-- a comma behind a digit that this many digits follow
abbrev pub separator : ℕ → List ℕ
separator following = if nat_lt 0 following && (following % 3 == 0) then 44 ∷ [] else []

abbrev pub grouped_digits : List ℕ → List ℕ
grouped_digits [] = []
grouped_digits (d ∷ ds) = d ∷ (separator (length ds) ++ grouped_digits ds)

-- a number in groups of three
abbrev pub grouped : ℕ → List ℕ
grouped n = grouped_digits (decimal n)

-- the date of a moment that was printed, as 20250303, and its time, as 14:30:00.001

abbrev pub date_in : List ℕ → List ℕ
date_in utc = take 8 utc

abbrev pub time_in : List ℕ → List ℕ
time_in utc = drop 9 utc

-- the whole of it, or, where all moments are of one date, its time
abbrev pub clock_text : Bool → List ℕ → List ℕ
clock_text dated utc = if dated then utc else time_in utc

-- the first and the last moment, if there are any, are of two dates

abbrev pub day : ℕ
day = 86_400_000

abbrev pub are_dated : Option ℕ → Option ℕ → Bool
are_dated None last = false
are_dated (Some a) None = false
are_dated (Some a) (Some b) = not (a / day == b / day)

-- the date of a row that may be absent, and its date and time

abbrev pub date_of : Option (List ℕ) → List ℕ
date_of None = codes "no rows"
date_of (Some utc) = date_in utc

abbrev pub moment_of : Option (List ℕ) → List ℕ
moment_of None = codes "no rows"
moment_of (Some utc) = utc

-- a price field's value, between its tag and its SOH

abbrev pub value_in : List ℕ → List ℕ
value_in field = take (length field - 4) (drop 3 field)

-- A price with the decimals of its instrument's tick, so that prices align; with more, where it has more.

-- decimals of a number of millionths
abbrev pub places_of : ℕ → ℕ
places_of n =
    if n % 1_000_000 == 0 then 0
    else (if n % 100_000 == 0 then 1
    else (if n % 10_000 == 0 then 2
    else (if n % 1000 == 0 then 3
    else (if n % 100 == 0 then 4
    else (if n % 10 == 0 then 5
    else 6)))))

-- the zeros that are wanting, after a point where there is none
abbrev pub zeros : ℕ → ℕ → List ℕ
zeros wanted present =
    if nat_lt present wanted then (if present == 0 then take (wanted + 1) (codes ".000000") else take (wanted - present) (codes "000000")) else []

abbrev pub price_in : ℕ → ℤ → List ℕ
price_in tick p = price_text p ++ zeros (places_of tick) (places_of (nat_abs p))
