-- Orders that rest, as they are printed: the resting orders of the rules, each with its owner, and the owner's
-- identifier.
use Rattle.std.specs.Prelude.{ℕ, ◌+◌, ◌-◌, List, [], ◌++◌, map, slice_get, Option, None, Some, option_map}
use Rattle.std.specs.List.{filter_map, flat_map}
use Rattle.fix_dictionary.specs.declared.values.Side.TheVariants.{Buy, Sell}
use Rattle.instruments.specs.declared.instruments.Instrument.{Instrument}
use Rattle.instruments.specs.Listing.{instrument_of}
use Rattle.venue_rules.specs.declared.facts.Fact.{Fact}
use Rattle.venue_rules.specs.declared.replies.SnapshotEntry.{SnapshotEntry}
use Rattle.venue_rules.specs.Book.{Resting, filled, resting}
use Rattle.venue_rules.specs.Facts.{History}
use Rattle.venue_rules.specs.Market.{Market}
use Rattle.venue_rules.specs.Run.{Message, answer_input}
use Rattle.row_replay.specs.Asking.{asks, entries_in}
use Rattle.resting_orders.specs.declared.noted.EnteredOrder.{EnteredOrder}
use Rattle.resting_orders.specs.declared.rested.RestedOrder.{RestedOrder}

-- the row by which the order with a number entered: the k-th that entered has number k
abbrev pub row_of : List EnteredOrder → ℕ → ℕ
row_of entered number = elim (slice_get entered (number - 1)) [ None ↦ 0 | Some o ↦ o.at.row ]

-- a resting order of an instrument: its terms and number, what is left of its quantity, its owner, the owner's
-- identifier (11), the moment by which its priority counts, and the row by which it entered. Its quantity (38 as last
-- sent) and what is filled of it count what was filled under replaced numbers too.
abbrev pub rested_of : List EnteredOrder → List ℕ → Resting → RestedOrder
rested_of entered symbol r = record {
  symbol = symbol;
  side = r.entry.order.side;
  price = r.entry.order.price;
  left = r.left;
  quantity = r.entry.filled_before + r.entry.order.quantity;
  filled = filled r;
  number = r.entry.number;
  owner = r.entry.order.who;
  id = r.entry.order.id;
  at = record { row = row_of entered r.entry.number; moment = r.entry.moment };
}

-- every resting order of an instrument: bids, then offers, each in price-time priority
abbrev pub book_of : List EnteredOrder → List ℕ → List Fact → ℕ → List RestedOrder
book_of entered symbol facts x = map (rested_of entered symbol) (resting facts x Buy ++ resting facts x Sell)

-- of every instrument, in the order of the instrument file
abbrev pub books_of : List EnteredOrder → List Fact → List Instrument → List Instrument → List RestedOrder
books_of entered facts all xs = flat_map (λ x. book_of entered x.symbol facts (instrument_of all x.symbol)) xs

-- How it is found: what the venue shows of an instrument, with the orders that entered, the k-th of which has number k.

abbrev pub rested_with : List ℕ → SnapshotEntry → EnteredOrder → RestedOrder
rested_with symbol e o = record { symbol = symbol; side = e.side; price = e.price; left = e.left; quantity = o.filled_before + o.quantity; filled = o.filled_before + (o.quantity - e.left); number = e.order; owner = o.owner; id = o.id; at = o.at }

abbrev pub rested_at : List EnteredOrder → List ℕ → SnapshotEntry → Option RestedOrder
rested_at orders symbol e = option_map (rested_with symbol e) (slice_get orders (e.order - 1))

abbrev pub rested_in : List EnteredOrder → List ℕ → List SnapshotEntry → List RestedOrder
rested_in orders symbol es = filter_map (rested_at orders symbol) es

abbrev pub rested_shown : List EnteredOrder → List ℕ → Option (List SnapshotEntry) → List RestedOrder
rested_shown orders symbol shown = elim shown [ None ↦ [] | Some es ↦ rested_in orders symbol es ]

-- of every instrument, as the venue shows it to who asks
abbrev pub books_shown : List EnteredOrder → Market → History → List Instrument → List RestedOrder
books_shown orders m h xs = flat_map (λ x. rested_shown orders x.symbol (entries_in (answer_input m h (Message (asks 0 x.symbol) 0)).replies)) xs
