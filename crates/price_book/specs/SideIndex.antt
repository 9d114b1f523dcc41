use Rattle.std.specs.Prelude.{◌≡◌, ⊤, ℕ, suc, ◌+◌, ◌*◌, ◌≤◌, ◌<◌, ◌^◌, ◌==◌, nat_lt, false, List, [], ◌∷◌, length, get_or, reverse, if◌then◌else◌}
use Rattle.std.specs.Coded.{×_prop, Unit-prop, le_prop}
use Rattle.std.specs.HashMap.{spare as unused}
use Rattle.std.specs.Vec.{vec_capacity, vec_len}
use Rattle.fix_dictionary.specs.declared.values.Side.{Side}
use Rattle.fix_dictionary.specs.declared.values.Side.TheVariants.{Buy, Sell}
use Rattle.venue_rules.specs.Book.{Resting, side_capacity}
use Rattle.price_book.specs.declared.side_queue.SideQueue.{SideQueue}
use Rattle.price_book.specs.declared.resting_orders.RestingOrders.{RestingOrders}
use Rattle.price_book.specs.declared.row.Row.{Row}
use Rattle.price_book.specs.Live.{ranked_live}
use Rattle.price_book.specs.Rows.{rows_of}
use Rattle.price_book.specs.Numbered.{IsListed}

-- index of an instrument's side: by instrument, the bids first
abbrev pub side_index : ℕ → Side → ℕ
side_index x Buy = x * 2
side_index x Sell = x * 2 + 1

abbrev pub rung_of : SideQueue → ℕ
rung_of l = side_index l.instrument l.side

-- the rows of a side queue, best first; it stores the best last
abbrev pub rows_in : SideQueue → List Row
rows_in l = reverse l.rows.items

-- the rows of the queue with this index; none without a queue
abbrev pub held : ℕ → List SideQueue → List Row
held n [] = []
held n (l ∷ ls) = if n == rung_of l then rows_in l else held n ls

-- side queues in order of their indices, one an index
abbrev pub AreOrdered : ℕ → List SideQueue → Type 0
AreOrdered low [] = ⊤
AreOrdered low (l ∷ ls) = (low ≤ rung_of l) × AreOrdered (rung_of l + 1) ls

pub AreOrdered-prop : (low : ℕ) (ls : List SideQueue) → IsProp (AreOrdered low ls)
AreOrdered-prop low [] = Unit-prop
AreOrdered-prop low (l ∷ ls) = ×_prop le_prop (AreOrdered-prop (rung_of l + 1) ls)

-- no side queue has this index
abbrev pub Lacks : ℕ → List SideQueue → Type 0
Lacks n [] = Unit {0}
Lacks n (l ∷ ls) = ((n == rung_of l) ≡ false) × Lacks n ls

-- the side queue with this index is at this place
abbrev pub IsLadder : ℕ → List SideQueue → ℕ → Type 0
IsLadder n ls k = (k < length ls) × ((d : SideQueue) → rung_of (get_or ls k d) ≡ n)

-- the number of side queues with lesser indices
abbrev pub lower : ℕ → List SideQueue → ℕ
lower n [] = 0
lower n (l ∷ ls) = if nat_lt (rung_of l) n then suc (lower n ls) else 0

-- each side queue has the orders of its instrument and side, ranked
abbrev pub AreLadders : List Resting → List SideQueue → Type 0
AreLadders rs ls = (x : ℕ) (side : Side) → held (side_index x side) ls ≡ rows_of (ranked_live x side rs)

-- the stored orders are these: by number, by name and by side
pub record IsConsistent (rs : List Resting) (o : RestingOrders) : Type 0 where
  pub listed : IsListed rs o.stored_orders.entries o.names.items
  pub ordered : AreOrdered 0 o.side_queues.items
  pub side_queues : AreLadders rs o.side_queues.items
  pub empty : o.spare.items ≡ []

-- n orders, 0 or 1, may enter without allocation: each side queue has a free place, and there is one for a further
-- queue
pub record HasCapacity (n : ℕ) (o : RestingOrders) : Type 0 where
  pub one : n ≤ 1
  pub stored_orders : n ≤ unused o.stored_orders
  pub names : vec_len o.names + n ≤ vec_capacity o.names
  pub few : vec_len o.names + n ≤ 2 ^ 32
  pub side_queues : vec_len o.side_queues + n ≤ vec_capacity o.side_queues
  pub spare : n * (side_capacity + 1) ≤ o.spare.capacity
  pub places : (x : ℕ) (side : Side) → length (held (side_index x side) o.side_queues.items) + n ≤ side_capacity + 1
