use Rattle.std.specs.Prelude.{◌≡◌, ℕ, min, List, [], ◌∷◌, length}
use Rattle.std.specs.Vec.{vec_capacity}
use Rattle.price_book.specs.declared.row.Priority.{Priority}
use Rattle.price_book.specs.declared.row.Row.{Row}
use Rattle.price_book.specs.declared.rows.Rows.TheInside.{Inside}

-- a side's orders, the best last, and their capacity: the lesser of both lists'
pub record Ranks : Type 0 where
  pub items : List Row
  pub capacity : ℕ

-- an order with this priority and leaves quantity
abbrev pub row_with : Priority → ℕ → Row
row_with p left = record { number = p.number; price = p.price; left = left }

-- orders with these priorities and leaves quantities
abbrev pub rows_with : List Priority → List ℕ → List Row
rows_with [] ls = []
rows_with (p ∷ ps) [] = []
rows_with (p ∷ ps) (l ∷ ls) = row_with p l ∷ rows_with ps ls

abbrev pub ranks : Inside → Ranks
ranks a = record { items = rows_with a.priorities.items a.left.items; capacity = min (vec_capacity a.priorities) (vec_capacity a.left) }

-- both lists have an element for each order
abbrev pub ArePaired : Inside → Type 0
ArePaired a = length a.priorities.items ≡ length a.left.items
