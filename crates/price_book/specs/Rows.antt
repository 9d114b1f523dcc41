use Rattle.std.specs.Prelude.{◌≡◌, ℕ, ℤ, suc, zero, ◌-◌, ◌<◌, Bool, true, not, ◌&&◌, ◌||◌, nat_lt, List, [], ◌∷◌, map, length, get_or}
use Rattle.std.specs.List.{insert, position_or_len}
use Rattle.fix_dictionary.specs.declared.values.Side.{Side}
use Rattle.venue_rules.specs.declared.replies.SnapshotEntry.{SnapshotEntry}
use Rattle.venue_rules.specs.Book.{Resting, is_better}
use Rattle.price_book.specs.declared.row.Priority.{Priority}
use Rattle.price_book.specs.declared.row.Row.{Row}

-- a resting order as a row
abbrev pub row_of : Resting → Row
row_of r = record { number = r.entry.number; price = r.entry.order.price; left = r.left }

abbrev pub rows_of : List Resting → List Row
rows_of rs = map row_of rs

-- price-time priority of an order
abbrev pub priority_of : Row → Priority
priority_of row = record { number = row.number; price = row.price }

-- ranks before an order with this price and number: at a better price, or at the same price with a lesser number
abbrev pub ranks_before : Side → ℤ → ℕ → Priority → Bool
ranks_before side price number p = is_better side p.price price || (nat_lt p.number number && not (is_better side price p.price))

-- the same for a row
abbrev pub comes_before : Side → ℤ → ℕ → Row → Bool
comes_before side price number row = ranks_before side price number (priority_of row)

-- rows in price-time priority, the best first
abbrev pub AreRanked : Side → List Row → Type 0
AreRanked side rows = (i j : ℕ) (d : Row) → i < j → j < length rows → comes_before side (get_or rows j d).price (get_or rows j d).number (get_or rows i d) ≡ true

-- the order with this number and price is at this place
pub record IsRow (n : ℕ) (p : ℤ) (rows : List Row) (k : ℕ) : Type 0 where
  pub inside : k < length rows
  pub number : (d : Row) → (get_or rows k d).number ≡ n
  pub price : (d : Row) → (get_or rows k d).price ≡ p

-- the place of an order with this price that enters after all of these
abbrev pub behind : Side → ℤ → List Row → ℕ
behind side price rows = position_or_len (λ row. is_better side price row.price) rows

-- an entering order goes behind all that are as good
abbrev pub put_last : Side → Row → List Row → List Row
put_last side row rows = insert rows (behind side row.price rows) row

-- the order at a place loses a quantity
abbrev pub cut_at : ℕ → ℕ → List Row → List Row
cut_at k quantity [] = []
cut_at zero quantity (row ∷ rows) = record { number = row.number; price = row.price; left = row.left - quantity } ∷ rows
cut_at (suc k) quantity (row ∷ rows) = row ∷ cut_at k quantity rows

-- a side's order as a snapshot entry
abbrev pub shown_row : Side → Row → SnapshotEntry
shown_row side row = record { side = side; price = row.price; left = row.left; order = row.number }
