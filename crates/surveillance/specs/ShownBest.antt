-- The best prices that a request was shown (17 CFR 37.9(a)(3)): the highest bid and the lowest offer of those shown at
-- the row of the first quote in its room.
use Rattle.std.specs.Prelude.{ℕ, ℤ, ◌==◌, Bool, false, bytes_eq, int_lt, filter, List, [], ◌∷◌, Option, Some, None, if◌then◌else◌}
use Rattle.fix_dictionary.specs.declared.values.Side.{Side}
use Rattle.fix_dictionary.specs.declared.values.Side.TheVariants.{Buy, Sell}
use Rattle.venue_rules.specs.Rooms.{printed}
use Rattle.day_events.specs.declared.event.Event.{Event}
use Rattle.day_events.specs.declared.event.What.{What}
use Rattle.day_events.specs.declared.event.What.TheVariants as what
use Rattle.day_events.specs.declared.shown.ShownPrice.{ShownPrice}
use Rattle.surveillance.specs.declared.shown.Best.{Best}

abbrev pub nothing_shown : Best
nothing_shown = record { bid = None; offer = None }

abbrev pub higher : Option ℤ → ℤ → Option ℤ
higher None p = Some p
higher (Some q) p = if int_lt q p then Some p else Some q

abbrev pub lower : Option ℤ → ℤ → Option ℤ
lower None p = Some p
lower (Some q) p = if int_lt p q then Some p else Some q

abbrev pub with_price : Best → Side → ℤ → Best
with_price b Buy p = record { bid = higher b.bid p; offer = b.offer }
with_price b Sell p = record { bid = b.bid; offer = lower b.offer p }

-- the best of these prices and of those before
abbrev pub best_from : Best → List ShownPrice → Best
best_from b [] = b
best_from b (x ∷ xs) = best_from (with_price b x.side x.price) xs

abbrev pub is_at_row : ℕ → ShownPrice → Bool
is_at_row row x = x.row == row

-- of those shown at a row
abbrev pub best_at : List ShownPrice → ℕ → Best
best_at ps row = best_from nothing_shown (filter (is_at_row row) ps)

-- a quote names its room (131)

abbrev pub is_named : List ℕ → Option (List ℕ) → Bool
is_named id None = false
is_named id (Some room) = bytes_eq id room

abbrev pub is_quote_in : List ℕ → Option (List ℕ) → What → Bool
is_quote_in id room (what.Quoted x) = is_named id room
is_quote_in id room _ = false

-- the row of the first quote in a room
abbrev pub first_quote : List ℕ → List Event → Option ℕ
first_quote id [] = None
first_quote id (e ∷ es) = if is_quote_in id e.at.named e.what then Some e.at.row else first_quote id es

abbrev pub best_at_quote : List ShownPrice → Option ℕ → Best
best_at_quote ps None = nothing_shown
best_at_quote ps (Some row) = best_at ps row

-- what a room was shown, by the venue's identifier of it, as R1
abbrev pub best_in : List Event → List ShownPrice → ℕ → Best
best_in es ps room = best_at_quote ps (first_quote (printed 82 room) es)
