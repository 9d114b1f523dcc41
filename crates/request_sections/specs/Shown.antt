-- What was shown with the first quote of a request: the prices at the row of that quote, with the decimals of a tick.
use Rattle.std.specs.Prelude.{ℕ, ◌-◌, ◌==◌, ◌&&◌, Bool, true, false, not, List, [], ◌∷◌, ◌++◌, filter, length, nat_le, take, decimal, sum_by, if◌then◌else◌}
use Rattle.std.specs.List.{flat_map}
use Rattle.fix_dictionary.specs.declared.values.Side.{Side}
use Rattle.fix_dictionary.specs.declared.values.Side.TheVariants.{Buy, Sell}
use Rattle.page_text.specs.Parts.{Part}
use Rattle.day_events.specs.declared.event.Event.{Event}
use Rattle.day_events.specs.declared.event.What.{What}
use Rattle.day_events.specs.declared.event.What.TheVariants as what
use Rattle.day_events.specs.declared.shown.ShownPrice.{ShownPrice}
use Rattle.day_tables.specs.Parts.{plain_part}
use Rattle.day_tables.specs.Values.{grouped, price_in}
use Rattle.request_sections.specs.declared.template.TheConstants.{BIDS, MORE_SHOWN, NOBODY_QUOTED, NOTHING_RESTED, NO_BID, NO_OFFER, OFFERS, ROOM_SHOWN, SHOWN, SHOWN_WITH}

-- the rows of a day come in order
abbrev pub rises : ℕ → List ShownPrice → Bool
rises low [] = true
rises low (x ∷ xs) = nat_le low x.row && rises x.row xs

abbrev pub at_row : ℕ → List ShownPrice → List ShownPrice
at_row row ps = filter (λ x. x.row == row) ps

abbrev pub is_on : Bool → Side → Bool
is_on bid Buy = bid
is_on bid Sell = not bid

-- the bids among them, or the offers; best first, as the venue sends them
abbrev pub on_side : Bool → List ShownPrice → List ShownPrice
on_side bid ps = filter (λ x. is_on bid x.side) ps

-- the most orders of a side that are listed
abbrev pub most_shown : ℕ
most_shown = 4

abbrev pub total : List ShownPrice → ℕ
total ps = sum_by (λ x. x.left) ps

abbrev pub price_part : ℕ → ShownPrice → Part
price_part tick x = record { template = SHOWN.now; values = grouped x.left ∷ price_in tick x.price ∷ decimal x.order ∷ [] }

abbrev pub price_parts : ℕ → ShownPrice → List Part
price_parts tick x = price_part tick x ∷ []

-- how many more there are, and the quantity of all
abbrev pub more_part : List ShownPrice → Part
more_part ps = record { template = MORE_SHOWN.now; values = grouped (length ps - most_shown) ∷ grouped (total ps) ∷ [] }

abbrev pub more_parts : List ShownPrice → List Part
more_parts ps = if nat_le (length ps) most_shown then [] else more_part ps ∷ []

abbrev pub word_part : Bool → Part
word_part true = plain_part BIDS.now
word_part false = plain_part OFFERS.now

abbrev pub no_price_part : Bool → Part
no_price_part true = plain_part NO_BID.now
no_price_part false = plain_part NO_OFFER.now

abbrev pub some_prices : ℕ → Bool → List ShownPrice → List Part
some_prices tick bid ps = word_part bid ∷ (flat_map (price_parts tick) (take most_shown ps) ++ more_parts ps)

abbrev pub side_parts : ℕ → Bool → List ShownPrice → List Part
side_parts tick bid ps = if length ps == 0 then no_price_part bid ∷ [] else some_prices tick bid ps

abbrev pub both_parts : ℕ → List ShownPrice → List Part
both_parts tick ps = side_parts tick true (on_side true ps) ++ side_parts tick false (on_side false ps)

abbrev pub prices_parts : ℕ → List ShownPrice → List Part
prices_parts tick ps = if length ps == 0 then plain_part NOTHING_RESTED.now ∷ [] else both_parts tick ps

-- with which quote

abbrev pub with_part_of : ℕ → Part
with_part_of quote = record { template = SHOWN_WITH.now; values = decimal quote ∷ [] }

abbrev pub with_parts_of : What → List Part
with_parts_of (what.Quoted q) = with_part_of q.quote ∷ []
with_parts_of _ = []

abbrev pub first_parts : ℕ → List ShownPrice → Event → List Part
first_parts tick ps q = prices_parts tick (at_row q.at.row ps) ++ with_parts_of q.what

-- by the quotes of the room
abbrev pub shown_parts : ℕ → List ShownPrice → List Event → List Part
shown_parts tick ps [] = plain_part NOBODY_QUOTED.now ∷ []
shown_parts tick ps (q ∷ qs) = first_parts tick ps q

abbrev pub shown_section : ℕ → List ShownPrice → List Event → List Part
shown_section tick ps quotes = plain_part ROOM_SHOWN.now ∷ shown_parts tick ps quotes
