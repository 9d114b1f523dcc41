-- The volume on a chart: a bar for each of 60 equal parts of the day, the book below and requests on it.
use Rattle.std.specs.Prelude.{ℕ, zero, suc, ◌+◌, ◌-◌, ◌*◌, ◌/◌, ◌^◌, ◌==◌, ◌&&◌, not, max, min, Bool, true, false, List, [], ◌∷◌, ◌++◌, codes, decimal, sum_by, if◌then◌else◌}
use Rattle.std.specs.Int.{div_ceil}
use Rattle.page_text.specs.Parts.{Part}
use Rattle.day_tables.specs.Parts.{each_from, framed, plain_part}
use Rattle.day_tables.specs.Values.{grouped}
use Rattle.instrument_charts.specs.declared.deals.Deal.{Deal}
use Rattle.chart_axes.specs.declared.scale.Scale.{Scale}
use Rattle.instrument_charts.specs.declared.template.TheConstants.{BAR, VOLUME, VOLUME_END}
use Rattle.chart_axes.specs.Scales.{part_of}

abbrev pub most_bars : ℕ
most_bars = 60

-- what is counted: the quantity of each trade, or of those in requests
abbrev pub counted : Bool → Deal → ℕ
counted requests d = if requests && not d.is_request then 0 else d.quantity

abbrev pub counted_at : Scale → Bool → ℕ → Deal → ℕ
counted_at s requests k d = if part_of s most_bars d.moment == k then counted requests d else 0

-- in a part of the day
abbrev pub volume_in : Scale → Bool → List Deal → ℕ → ℕ
volume_in s requests ds k = sum_by (counted_at s requests k) ds

-- the greatest of n numbers, from one on
abbrev pub greatest_from : (ℕ → ℕ) → ℕ → ℕ → ℕ
greatest_from f k zero = 0
greatest_from f k (suc n) = max (f k) (greatest_from f (k + 1) n)

abbrev pub greatest_of : (ℕ → ℕ) → ℕ
greatest_of all = greatest_from all 0 most_bars

-- of 37 pixels for the greatest, rounded up: two bars of a part have at most 38. (No 37 volumes reach the bound.)
abbrev pub pixels : ℕ → ℕ → ℕ
pixels most n = div_ceil (min (n * 37) (2 ^ 128 - 1)) (max 1 most)

abbrev pub bar_part : List ℕ → ℕ → ℕ → ℕ → Part
bar_part kind k top height = record { template = BAR.now; values = kind ∷ decimal (100 + 9800 * k / most_bars) ∷ decimal top ∷ decimal height ∷ [] }

abbrev pub bar_or_none : List ℕ → ℕ → ℕ → ℕ → List Part
bar_or_none kind k top height = if height == 0 then [] else bar_part kind k top height ∷ []

-- of 38 pixels the lowest for the book, and those on them for requests
abbrev pub stack_parts : ℕ → ℕ → ℕ → List Part
stack_parts k book requests = bar_or_none (codes "vb") k (38 - book) book ++ bar_or_none (codes "va") k (38 - book - requests) requests

abbrev pub bar_parts : ℕ → (ℕ → ℕ) → (ℕ → ℕ) → ℕ → List Part
bar_parts greatest all requests k = stack_parts k (pixels greatest (all k - requests k)) (pixels greatest (requests k))

abbrev pub top_part : ℕ → Part
top_part greatest = record { template = VOLUME.now; values = grouped greatest ∷ [] }

abbrev pub bars_parts : ℕ → (ℕ → ℕ) → (ℕ → ℕ) → List Part
bars_parts greatest all requests = framed (top_part greatest) (each_from (bar_parts greatest all requests) 0 most_bars) (plain_part VOLUME_END.now)

-- in all, and in requests
unfoldable pub volume_parts : Scale → List Deal → List Part
volume_parts s ds = bars_parts (greatest_of (volume_in s false ds)) (volume_in s false ds) (volume_in s true ds)
