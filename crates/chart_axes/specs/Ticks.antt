-- The labels of a chart: round prices and round times, each with a line.
use Rattle.std.specs.Prelude.{ℕ, ◌+◌, ◌*◌, ◌/◌, ◌%◌, ◌==◌, ◌&&◌, max, nat_le, nat_lt, ℤ, pos, negsuc, ◌-ℤ◌, Bool, List, [], ◌∷◌, codes, decimal, take, Option, Some, None, if◌then◌else◌}
use Rattle.std.specs.Int.{div_ceil}
use Rattle.std.specs.List.{find}
use Rattle.std.specs.Ordering.{int_eq}
use Rattle.page_text.specs.Parts.{Part}
use Rattle.sef_moment.specs.Utc.{utc_text}
use Rattle.day_tables.specs.Parts.{each_from}
use Rattle.day_tables.specs.Values.{date_in, day, price_in, time_in}
use Rattle.chart_axes.specs.declared.range.Range.{Range}
use Rattle.chart_axes.specs.declared.scale.Scale.{Scale}
use Rattle.chart_axes.specs.declared.template.TheConstants.{PRICE_TICK, TIME_TICK}
use Rattle.chart_axes.specs.declared.ticks.TheConstants.{SPANS, STEPS}
use Rattle.chart_axes.specs.Ranges.{distance}
use Rattle.chart_axes.specs.Scales.{across, down, has_dates}

-- of the multiples of a step that are not below a number, the first, second and so on, from 0
abbrev pub multiple : ℕ → ℕ → ℕ → ℕ
multiple step low k = div_ceil low (max 1 step) * max 1 step + k * max 1 step

-- at most that many multiples are from one number to another
abbrev pub fits : ℕ → ℕ → ℕ → ℕ → Bool
fits most low high step = nat_lt high (multiple step low most)

-- Prices: the least of 1, 2, 5 times a power of ten that is of whole ticks and makes at most six labels; of any number
-- of ticks, where none is of whole ticks. Of a range that has fewer than two such prices its lowest and highest.

-- above the least price, and the price

abbrev pub raised : ℤ → ℕ
raised p = distance p (negsuc 999_999_999_999_999_999)

abbrev pub lowered : ℕ → ℤ
lowered n = pos n -ℤ pos 1_000_000_000_000_000_000

abbrev pub most_prices : ℕ
most_prices = 6

abbrev pub is_few : Range → ℕ → Bool
is_few r step = fits most_prices (raised r.low) (raised r.high) step

abbrev pub is_step : ℕ → Range → ℕ → Bool
is_step tick r step = (step % max 1 tick == 0) && is_few r step

abbrev pub or_last : Option ℕ → ℕ
or_last None = 1_000_000_000_000_000_000
or_last (Some step) = step

abbrev pub few_step : List ℕ → Range → ℕ
few_step steps r = or_last (find (is_few r) steps)

abbrev pub or_few : List ℕ → Range → Option ℕ → ℕ
or_few steps r None = few_step steps r
or_few steps r (Some step) = step

abbrev pub step_of : List ℕ → ℕ → Range → ℕ
step_of steps tick r = or_few steps r (find (is_step tick r) steps)

abbrev pub price_part : Scale → ℤ → Part
price_part s p = record { template = PRICE_TICK.now; values = decimal (down s p) ∷ price_in s.tick p ∷ [] }

abbrev pub price_parts : Scale → ℕ → ℕ → List Part
price_parts s step k =
    if nat_le (multiple step (raised s.range.low) k) (raised s.range.high) then price_part s (lowered (multiple step (raised s.range.low) k)) ∷ [] else []

abbrev pub has_two_prices : Scale → ℕ → Bool
has_two_prices s step = nat_le (multiple step (raised s.range.low) 1) (raised s.range.high)

abbrev pub highest_parts : Scale → List Part
highest_parts s = if int_eq s.range.low s.range.high then [] else price_part s s.range.high ∷ []

abbrev pub price_ends : Scale → List Part
price_ends s = price_part s s.range.low ∷ highest_parts s

unfoldable pub steps_parts : Scale → ℕ → List Part
steps_parts s step = if has_two_prices s step then each_from (price_parts s step) 0 most_prices else price_ends s

unfoldable pub prices_parts : Scale → List Part
prices_parts s = steps_parts s (step_of STEPS.now s.tick s.range)

-- Times: the least of some spans that makes at most five labels; of a trail that has fewer than two such moments its
-- first and last.

abbrev pub most_times : ℕ
most_times = 5

abbrev pub is_span : Scale → ℕ → Bool
is_span s span = fits most_times s.first s.last span

abbrev pub span_of : List ℕ → Scale → Option ℕ
span_of spans s = find (is_span s) spans

-- to the minute or the second; a midnight of a trail of several dates is its date

abbrev pub minute_in : List ℕ → List ℕ
minute_in utc = take 5 (time_in utc)

abbrev pub second_in : List ℕ → List ℕ
second_in utc = take 8 (time_in utc)

abbrev pub clock_in : ℕ → List ℕ → List ℕ
clock_in span utc = if span % 60_000 == 0 then minute_in utc else second_in utc

abbrev pub label_of : Scale → ℕ → ℕ → List ℕ
label_of s span t = if has_dates s && (t % day == 0) then date_in (utc_text t) else clock_in span (utc_text t)

abbrev pub end_label_of : Scale → ℕ → List ℕ
end_label_of s t = if has_dates s then date_in (utc_text t) else time_in (utc_text t)

abbrev pub time_part : Scale → List ℕ → ℕ → List ℕ → Part
time_part s anchor t label = record {
  template = TIME_TICK.now;
  values = decimal (across s t / 100) ∷ decimal (across s t / 10 % 10) ∷ decimal (across s t % 10) ∷ anchor ∷ label ∷ [];
}

abbrev pub time_parts : Scale → ℕ → ℕ → List Part
time_parts s span k =
    if nat_le (multiple span s.first k) s.last then time_part s (codes "middle") (multiple span s.first k) (label_of s span (multiple span s.first k)) ∷ [] else []

abbrev pub last_parts : Scale → List Part
last_parts s = if s.first == s.last then [] else time_part s (codes "end") s.last (end_label_of s s.last) ∷ []

abbrev pub end_parts : Scale → List Part
end_parts s =
    time_part s (codes "start") s.first (end_label_of s s.first) ∷ last_parts s

abbrev pub has_two : Scale → ℕ → Bool
has_two s span = nat_le (multiple span s.first 1) s.last

abbrev pub spans_parts : Scale → Option ℕ → List Part
spans_parts s None = end_parts s
spans_parts s (Some span) = if has_two s span then each_from (time_parts s span) 0 most_times else end_parts s

unfoldable pub times_parts : Scale → List Part
times_parts s = spans_parts s (span_of SPANS.now s)
