-- The trades on a chart: a glyph each, or of many the lowest to the highest price in each part of the day.
use Rattle.std.specs.Prelude.{ℕ, ◌+◌, ◌*◌, ◌/◌, ◌%◌, ◌==◌, Bool, List, [], ◌∷◌, codes, decimal, Option, Some, None, if◌then◌else◌}
use Rattle.page_text.specs.Parts.{Part}
use Rattle.sef_moment.specs.Utc.{utc_text}
use Rattle.day_sections.specs.Values.{is_listed}
use Rattle.day_tables.specs.Parts.{each_from, framed, plain_part}
use Rattle.day_tables.specs.Values.{clock_text, grouped, price_in}
use Rattle.instrument_charts.specs.declared.deals.Deal.{Deal}
use Rattle.chart_axes.specs.declared.range.Range.{Range}
use Rattle.chart_axes.specs.declared.scale.Scale.{Scale}
use Rattle.instrument_charts.specs.declared.template.TheConstants.{GLYPH, GLYPH_ALONE, RANGE, RANGES, RANGES_END}
use Rattle.chart_axes.specs.Ranges.{covered}
use Rattle.chart_axes.specs.Scales.{across, down, has_dates, part_of}

-- with a link, if the trade is among those on the page
abbrev pub glyph_template : ℕ → List ℕ
glyph_template trade = if is_listed trade then GLYPH.now else GLYPH_ALONE.now

-- a diamond in a request, a dot in the book

abbrev pub shape_of : Bool → List ℕ
shape_of is_request = if is_request then codes "r" else codes "b"

abbrev pub class_of : Bool → List ℕ
class_of is_request = if is_request then codes "dia" else codes "dot"

abbrev pub glyph_part : Scale → Deal → Part
glyph_part s d = record {
  template = glyph_template d.number;
  values = decimal d.number ∷ shape_of d.is_request ∷ class_of d.is_request
      ∷ decimal (across s d.moment / 100) ∷ decimal (across s d.moment / 10 % 10) ∷ decimal (across s d.moment % 10) ∷ decimal (down s d.price)
      ∷ decimal d.number ∷ clock_text (has_dates s) (utc_text d.moment) ∷ grouped d.quantity ∷ price_in s.tick d.price ∷ [];
}

abbrev pub glyph_parts : Scale → Deal → List Part
glyph_parts s d = glyph_part s d ∷ []

-- Of many trades.

abbrev pub most_parts : ℕ
most_parts = 200

abbrev pub in_part : Scale → ℕ → Deal → Option Range → Option Range
in_part s k d later = if part_of s most_parts d.moment == k then Some (covered d.price later) else later

-- the range of the trades in a part of the day
abbrev pub range_in : Scale → ℕ → List Deal → Option Range
range_in s k [] = None
range_in s k (d ∷ ds) = in_part s k d (range_in s k ds)

abbrev pub range_part : Scale → ℕ → Range → Part
range_part s k r = record { template = RANGE.now; values = decimal (124 + 49 * k) ∷ decimal (down s r.high) ∷ decimal (down s r.low) ∷ [] }

abbrev pub range_or_none : Scale → ℕ → Option Range → List Part
range_or_none s k None = []
range_or_none s k (Some r) = range_part s k r ∷ []

abbrev pub range_parts : Scale → List Deal → ℕ → List Part
range_parts s ds k = range_or_none s k (range_in s k ds)

abbrev pub ranges_parts : Scale → List Deal → List Part
ranges_parts s ds = framed (plain_part RANGES.now) (each_from (range_parts s ds) 0 most_parts) (plain_part RANGES_END.now)
