-- The best prices of a day, row by row.
use Rattle.std.specs.Prelude.{◌≡◌, ◌≢◌, ℕ, zero, suc, ◌<◌, ℤ, Bool, false, ◌&&◌, List, [], ◌∷◌, ◌++◌, length, slice_get, position, bytes_eq, Option, None, Some, option_map, is_none, if◌then◌else◌}
use Rattle.std.specs.Ordering.{int_eq}
use Rattle.fix_dictionary.specs.declared.values.Side.{Side}
use Rattle.fix_dictionary.specs.declared.values.Side.TheVariants.{Buy, Sell}
use Rattle.instruments.specs.declared.instruments.Instrument.{Instrument}
use Rattle.venue_rules.specs.declared.facts.Fact.{Fact}
use Rattle.venue_rules.specs.declared.replies.Reply.{Reply}
use Rattle.venue_rules.specs.declared.trail.TrailRow.{TrailRow}
use Rattle.venue_rules.specs.Book.{Resting, resting}
use Rattle.venue_rules.specs.Facts.{History, no_history}
use Rattle.venue_rules.specs.Market.{Market}
use Rattle.venue_rules.specs.Run.{Input, after, answer_input}
use Rattle.market_laws.specs.OneBook.{reported_symbol}
use Rattle.day_events.specs.declared.best.Best.{Best}
use Rattle.day_events.specs.declared.best.Top.{Top}

-- The price of the first resting order of a side, in price-time priority: the highest of the buys, the lowest of the
-- sells. By the rules (`resting`) an order rests that entered as a day order, has leaves, and was neither cancelled nor
-- replaced. A side of a cross that is held has not entered yet, and a quote is never in the book.
abbrev pub best_price : List Fact → ℕ → Side → Option ℤ
best_price facts x side = option_map (λ (r : Resting). r.entry.order.price) (slice_get (resting facts x side) 0)

abbrev pub top_of : List Fact → ℕ → Top
top_of facts x = record { bid = best_price facts x Buy; offer = best_price facts x Sell }

abbrev pub is_same_price : Option ℤ → Option ℤ → Bool
is_same_price None other = is_none other
is_same_price (Some p) None = false
is_same_price (Some p) (Some q) = int_eq p q

abbrev pub is_same_top : Top → Top → Bool
is_same_top a b = is_same_price a.bid b.bid && is_same_price a.offer b.offer

abbrev pub best : TrailRow → ℕ → Top → Best
best r x t = record { row = r.n; moment = r.moment; instrument = x; bid = t.bid; offer = t.offer }

-- the best prices of an instrument after a row, if they are others than before it
abbrev pub changed : TrailRow → ℕ → Top → Top → List Best
changed r x before now = if is_same_top before now then [] else best r x now ∷ []

-- of the first n instruments, in the order of the file
abbrev pub changes : TrailRow → List Fact → List Fact → ℕ → List Best
changes r before now zero = []
changes r before now (suc n) = changes r before now n ++ changed r n (top_of before n) (top_of now n)

-- the best prices of the first n instruments
abbrev pub tops : List Fact → ℕ → List Top
tops facts zero = []
tops facts (suc n) = tops facts n ++ top_of facts n ∷ []

-- where the best prices before a row were kept, those after it are, and its changes were added
abbrev pub AddsChanges : TrailRow → List Fact → List Fact → ℕ → List Top → List Top → List Best → List Best → Type 0
AddsChanges r before now n ts ts' bs bs' = ts ≡ tops before n → (ts' ≡ tops now n) × (bs' ≡ bs ++ changes r before now n)

-- the first instrument with a symbol, by its place
abbrev pub place_in : List Instrument → Option (List ℕ) → Option ℕ
place_in file None = None
place_in file (Some symbol) = position (λ x. bytes_eq symbol x.symbol) file

-- the instrument of the order report with which an answer begins, if it begins with one
abbrev pub reported_in : List Instrument → List Reply → Option ℕ
reported_in file replies = place_in file (reported_symbol replies)

-- the best prices of all others are as they were
abbrev pub OthersStay : Option ℕ → ℕ → List Fact → List Fact → Type 0
OthersStay reported n before now = (x : ℕ) → x < n → reported ≢ Some x → top_of now x ≡ top_of before x

-- the changes at rows, by the rows from a history on
abbrev pub bests_from : Market → History → List TrailRow → List Input → List Best
bests_from m h [] is = []
bests_from m h (r ∷ rs) [] = []
bests_from m h (r ∷ rs) (i ∷ is) =
    changes r h.facts (after h (answer_input m h i)).facts (length m.instruments) ++ bests_from m (after h (answer_input m h i)) rs is

-- of a day
abbrev pub bests : Market → List TrailRow → List Input → List Best
bests m rs is = bests_from m no_history rs is
