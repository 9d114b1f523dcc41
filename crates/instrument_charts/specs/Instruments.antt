-- The section of the instruments: of each its chart, and its book at the end.
use Rattle.std.specs.Prelude.{ℕ, Bool, List, [], ◌∷◌, ◌++◌, nat_lt, length, Option, Some, None, if◌then◌else◌}
use Rattle.std.specs.List.{flat_map}
use Rattle.fix_dictionary.specs.declared.values.Side.TheVariants.{Buy, Sell}
use Rattle.instruments.specs.declared.instruments.Instrument.{Instrument}
use Rattle.instruments.specs.Listing.{symbol_of, tick_of}
use Rattle.page_text.specs.Parts.{Part}
use Rattle.day_events.specs.declared.best.Best.{Best}
use Rattle.day_tables.specs.Parts.{each_from, framed, plain_part}
use Rattle.day_tables.specs.Values.{grouped}
use Rattle.instrument_charts.specs.declared.deals.Deal.{Deal}
use Rattle.instrument_charts.specs.declared.ladder.Rest.{Rest}
use Rattle.instrument_charts.specs.declared.lines.Point.{Point}
use Rattle.chart_axes.specs.declared.range.Range.{Range}
use Rattle.chart_axes.specs.declared.scale.Scale.{Scale}
use Rattle.instrument_charts.specs.declared.section.Charted.{Charted}
use Rattle.instrument_charts.specs.declared.template.TheConstants.{CHART, CHART_END, FOLDED, INSTRUMENT_END, INSTRUMENTS, INSTRUMENTS_END, OPEN}
use Rattle.instrument_charts.specs.Deals.{deals_in}
use Rattle.instrument_charts.specs.Ladders.{ladder_parts}
use Rattle.instrument_charts.specs.Lines.{lines_parts, points_in}
use Rattle.instrument_charts.specs.Glyphs.{glyph_parts, ranges_parts}
use Rattle.instrument_charts.specs.Prices.{range_of}
use Rattle.chart_axes.specs.Ticks.{prices_parts, times_parts}
use Rattle.instrument_charts.specs.Volumes.{volume_parts}

-- what the section shows of a day
pub record Sheet : Type 0 where
  pub first : ℕ
  pub last : ℕ
  pub deals : List Deal
  pub bests : List Best
  pub rests : List Rest

abbrev pub sheet_of : Charted → Sheet
sheet_of d = record { first = d.first; last = d.last; deals = d.deals.now; bests = d.bests.now; rests = d.rests.now }

-- A chart.

abbrev pub chart_part : List ℕ → List Deal → Part
chart_part symbol ds = record { template = CHART.now; values = symbol ∷ grouped (length ds) ∷ [] }

abbrev pub labels_parts : Scale → List Part
labels_parts s = prices_parts s ++ times_parts s

abbrev pub are_many : List Deal → Bool
are_many ds = nat_lt 400 (length ds)

abbrev pub few_parts : Scale → List Deal → List Point → List Point → List Part
few_parts s ds bids offers = lines_parts s bids offers ++ flat_map (glyph_parts s) ds

-- best prices and a glyph for each trade; of many trades their ranges alone
abbrev pub curve_parts : Scale → List Deal → List Point → List Point → List Part
curve_parts s ds bids offers = if are_many ds then ranges_parts s ds else few_parts s ds bids offers

-- labels, and below it the volume
abbrev pub content_parts : Scale → List Deal → List Point → List Point → List Part
content_parts s ds bids offers = labels_parts s ++ (curve_parts s ds bids offers ++ volume_parts s ds)

abbrev pub chart_parts : Scale → List ℕ → List Deal → List Point → List Point → List Part
chart_parts s symbol ds bids offers = framed (chart_part symbol ds) (content_parts s ds bids offers) (plain_part CHART_END.now)

-- An instrument: open in a file of at most 12, else folded.

abbrev pub are_folded : List Instrument → Bool
are_folded file = nat_lt 12 (length file)

abbrev pub opening_template : Bool → List ℕ
opening_template folded = if folded then FOLDED.now else OPEN.now

abbrev pub opening_part : Bool → List ℕ → List Deal → Part
opening_part folded symbol ds = record { template = opening_template folded; values = symbol ∷ grouped (length ds) ∷ [] }

abbrev pub scale_of : Sheet → ℕ → Range → Scale
scale_of d tick r = record { first = d.first; last = d.last; tick = tick; range = r }

abbrev pub shown_parts : List Instrument → Sheet → ℕ → List Deal → List Point → List Point → Range → List Part
shown_parts file d x ds bids offers r =
    framed (opening_part (are_folded file) (symbol_of file x) ds) (chart_parts (scale_of d (tick_of file x) r) (symbol_of file x) ds bids offers ++ ladder_parts (tick_of file x) x d.rests) (plain_part INSTRUMENT_END.now)

-- none of an instrument without a price
abbrev pub ranged_parts : List Instrument → Sheet → ℕ → List Deal → List Point → List Point → Option Range → List Part
ranged_parts file d x ds bids offers None = []
ranged_parts file d x ds bids offers (Some r) = shown_parts file d x ds bids offers r

abbrev pub instrument_by : List Instrument → Sheet → ℕ → List Deal → List Point → List Point → List Part
instrument_by file d x ds bids offers = ranged_parts file d x ds bids offers (range_of (tick_of file x) ds bids offers)

abbrev pub instrument_parts : List Instrument → Sheet → ℕ → List Part
instrument_parts file d x = instrument_by file d x (deals_in x d.deals) (points_in x Buy d.bests) (points_in x Sell d.bests)

-- The section.

abbrev pub count_part : List Instrument → Part
count_part file = record { template = INSTRUMENTS.now; values = grouped (length file) ∷ [] }

abbrev pub instruments_parts : List Instrument → Sheet → List Part
instruments_parts file d = framed (count_part file) (each_from (instrument_parts file d) 0 (length file)) (plain_part INSTRUMENTS_END.now)
