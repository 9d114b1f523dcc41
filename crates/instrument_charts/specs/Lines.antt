-- The best prices of a side, as a line: level from each row that changes them to the next, and none while no order
-- rests.
use Rattle.std.specs.Prelude.{ℕ, ◌/◌, ◌==◌, ℤ, Bool, true, false, List, [], ◌∷◌, ◌++◌, decimal, is_some, Option, Some, None, if◌then◌else◌}
use Rattle.std.specs.List.{cons_option, filter_map}
use Rattle.fix_dictionary.specs.declared.values.Side.{Side}
use Rattle.fix_dictionary.specs.declared.values.Side.TheVariants.{Buy, Sell}
use Rattle.page_text.specs.Parts.{Part}
use Rattle.day_events.specs.declared.best.Best.{Best}
use Rattle.day_tables.specs.Parts.{plain_part}
use Rattle.instrument_charts.specs.declared.lines.Point.{Point}
use Rattle.chart_axes.specs.declared.scale.Scale.{Scale}
use Rattle.instrument_charts.specs.declared.template.TheConstants.{LINES, LINES_END, MOVE, OFFERS, STEP, STOP}
use Rattle.chart_axes.specs.Scales.{across, height_text}

abbrev pub price_at : Side → Best → Option ℤ
price_at Buy b = b.bid
price_at Sell b = b.offer

abbrev pub point_at : ℕ → Side → Best → Option Point
point_at x side b = if b.instrument == x then Some (record { moment = b.moment; price = price_at side b }) else None

-- the best prices of a side of an instrument, from each row that changes one of its two
abbrev pub points_in : ℕ → Side → List Best → List Point
points_in x side bs = filter_map (point_at x side) bs

abbrev pub move_part : Scale → ℕ → ℤ → Part
move_part s t p = record { template = MOVE.now; values = decimal (across s t) ∷ height_text s p ∷ [] }

abbrev pub step_part : Scale → ℕ → ℤ → Part
step_part s t p = record { template = STEP.now; values = decimal (across s t) ∷ height_text s p ∷ [] }

abbrev pub stop_part : Scale → ℕ → Part
stop_part s t = record { template = STOP.now; values = decimal (across s t) ∷ [] }

-- Of changes within one of 2,000 equal parts of the width the last one stands: one before another of its part is left
-- out.

abbrev pub stands_before : Scale → Option Point → Point → Option Point
stands_before s None q = None
stands_before s (Some p) q = if across s p.moment / 5 == across s q.moment / 5 then None else Some p

abbrev pub spaced : Scale → Option Point → List Point → List Point
spaced s before [] = cons_option before []
spaced s before (q ∷ qs) = cons_option (stands_before s before q) (spaced s (Some q) qs)

-- a change of the best price, after a line or where there is none
abbrev pub turn_parts : Scale → Bool → ℕ → Option ℤ → List Part
turn_parts s true t (Some p) = step_part s t p ∷ []
turn_parts s false t (Some p) = move_part s t p ∷ []
turn_parts s true t None = stop_part s t ∷ []
turn_parts s false t None = []

-- to the last row
abbrev pub line_parts : Scale → Bool → List Point → List Part
line_parts s drawn [] = turn_parts s drawn s.last None
line_parts s drawn (p ∷ ps) = turn_parts s drawn p.moment p.price ++ line_parts s (is_some p.price) ps

abbrev pub lines_parts : Scale → List Point → List Point → List Part
lines_parts s bids offers =
    plain_part LINES.now
    ∷ (line_parts s false (spaced s None bids)
    ++ plain_part OFFERS.now
    ∷ (line_parts s false (spaced s None offers)
    ++ plain_part LINES_END.now ∷ []))
