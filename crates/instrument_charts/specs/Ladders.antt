-- The book of an instrument at the end of a day, price by price.
use Rattle.std.specs.Prelude.{ℕ, ◌-◌, ◌==◌, ◌&&◌, not, nat_lt, ℤ, Bool, true, List, [], ◌∷◌, ◌++◌, count_by, decimal, filter, length, sum_by, take, Option, Some, None, if◌then◌else◌}
use Rattle.std.specs.List.{flat_map}
use Rattle.std.specs.Ordering.{int_eq}
use Rattle.fix_dictionary.specs.declared.values.Side.{Side}
use Rattle.fix_dictionary.specs.declared.values.Side.TheVariants.{Buy, Sell}
use Rattle.page_text.specs.Parts.{Part}
use Rattle.venue_rules.specs.Book.{is_side}
use Rattle.day_tables.specs.Lists.{kept_if}
use Rattle.day_tables.specs.Parts.{plain_part}
use Rattle.day_tables.specs.Values.{grouped, price_in}
use Rattle.instrument_charts.specs.declared.ladder.Rest.{Rest}
use Rattle.instrument_charts.specs.declared.template.TheConstants.{LADDER, LADDER_END, LEVEL, MORE, NO_SIDE}
use Rattle.instrument_charts.specs.Values.{quoted_side, sides_of}

abbrev pub is_at : ℕ → Side → Rest → Bool
is_at x side r = r.instrument == x && is_side r.side side

-- the orders of a side of an instrument
abbrev pub rests_in : ℕ → Side → List Rest → List Rest
rests_in x side rs = filter (is_at x side) rs

-- not the price of the order before
abbrev pub is_new : Option ℤ → ℤ → Bool
is_new None p = true
is_new (Some q) p = not (int_eq q p)

-- of orders in price-time priority the first at each price, after an order with this price
abbrev pub firsts : Option ℤ → List Rest → List Rest
firsts before [] = []
firsts before (r ∷ rs) = kept_if (is_new before r.price) r ++ firsts (Some r.price) rs

-- what is left of the orders at a price, and how many they are

abbrev pub left_at : ℤ → Rest → ℕ
left_at p r = if int_eq r.price p then r.left else 0

abbrev pub quantity_at : ℤ → List Rest → ℕ
quantity_at p rs = sum_by (left_at p) rs

abbrev pub orders_at : ℤ → List Rest → ℕ
orders_at p rs = count_by (λ r. int_eq r.price p) rs

-- The parts: the best prices, and what comes after them.

abbrev pub most_levels : ℕ
most_levels = 8

abbrev pub level_part : ℕ → Side → List Rest → Rest → Part
level_part tick side rs r = record {
  template = LEVEL.now;
  values = quoted_side side ∷ price_in tick r.price ∷ grouped (quantity_at r.price rs) ∷ grouped (orders_at r.price rs) ∷ decimal r.order ∷ [];
}

abbrev pub level_parts : ℕ → Side → List Rest → Rest → List Part
level_parts tick side rs r = level_part tick side rs r ∷ []

abbrev pub more_part : Side → ℕ → Part
more_part side n = record { template = MORE.now; values = sides_of side ∷ grouped (n - most_levels) ∷ [] }

abbrev pub no_part : Side → Part
no_part side = record { template = NO_SIDE.now; values = sides_of side ∷ [] }

abbrev pub end_parts : Side → ℕ → List Part
end_parts side n = if n == 0 then no_part side ∷ [] else (if nat_lt most_levels n then more_part side n ∷ [] else [])

abbrev pub side_parts : ℕ → Side → List Rest → List Part
side_parts tick side rs = flat_map (level_parts tick side rs) (take most_levels (firsts None rs)) ++ end_parts side (length (firsts None rs))

abbrev pub ladder_parts : ℕ → ℕ → List Rest → List Part
ladder_parts tick x rs =
    plain_part LADDER.now
    ∷ (side_parts tick Buy (rests_in x Buy rs)
    ++ (side_parts tick Sell (rests_in x Sell rs)
    ++ plain_part LADDER_END.now ∷ []))
