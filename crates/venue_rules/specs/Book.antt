use Rattle.std.specs.Prelude.{ℕ, ◌+◌, ◌-◌, min, Bool, true, false, ◌&&◌, ◌||◌, ◌==◌, nat_lt, nat_le, ℤ, int_lt, int_le, List, [], ◌∷◌, ◌++◌, map, filter, find, take, length, sum, sum_by, Option, Some, if◌then◌else◌, bytes_eq}
use Rattle.std.specs.List.{list_any, enumerate_from}
use Rattle.fix_dictionary.specs.declared.values.Side.{Side}
use Rattle.fix_dictionary.specs.declared.values.Side.TheVariants.{Buy, Sell}
use Rattle.venue_rules.specs.declared.facts.Fact.{Fact}
use Rattle.venue_rules.specs.declared.facts.Fact.TheVariants.{Removed}
use Rattle.venue_rules.specs.declared.facts.Entry.{Entry}
use Rattle.venue_rules.specs.declared.facts.OrderFact.{OrderFact}
use Rattle.venue_rules.specs.declared.facts.TimeInForce.{TimeInForce}
use Rattle.venue_rules.specs.declared.facts.TimeInForce.TheVariants.{Day, FillOrKill}
use Rattle.venue_rules.specs.declared.facts.TradeSource.{TradeSource}
use Rattle.venue_rules.specs.declared.facts.TradeSource.TheVariants.{Book as InBook, Room as InRoom}
use Rattle.venue_rules.specs.declared.replies.SnapshotEntry.{SnapshotEntry}
use Rattle.participants.specs.Relations.{related}
use Rattle.instruments.specs.Listing.{delay_of}
use Rattle.venue_rules.specs.Market.{Market}
use Rattle.venue_rules.specs.Facts.{entries, trades}

-- sides

abbrev pub opposite : Side → Side
opposite Buy = Sell
opposite Sell = Buy

abbrev pub is_side : Side → Side → Bool
is_side Buy Buy = true
is_side Sell Sell = true
is_side _ _ = false

-- the first price beats the second, for an order that rests on this side
abbrev pub is_better : Side → ℤ → ℤ → Bool
is_better Buy p q = int_lt q p
is_better Sell p q = int_lt p q

-- an order on this side, limited to the first price, may trade at the second
abbrev pub accepts : Side → ℤ → ℤ → Bool
accepts Buy limit p = int_le p limit
accepts Sell limit p = int_le limit p

abbrev pub is_day : TimeInForce → Bool
is_day Day = true
is_day _ = false

-- leaves quantity

abbrev pub takes_part : ℕ → TradeSource → Bool
takes_part number (InBook resting entering) = resting == number || entering == number
takes_part number (InRoom room quote) = false

-- the sum of an order's trades
abbrev pub traded : List Fact → ℕ → ℕ
traded facts number = sum_by (λ t. if takes_part number t.place then t.quantity else 0) (trades facts)

abbrev pub removes : ℕ → Fact → Bool
removes number (Removed r) = r.order == number
removes number _ = false

-- an order's quantity less its trades; 0 once cancelled or replaced
abbrev pub left : List Fact → Entry → ℕ
left facts e = if list_any (removes e.number) facts then 0 else e.order.quantity - traded facts e.number

-- an order and its leaves quantity
pub record Resting : Type 0 where
  pub entry : Entry
  pub left : ℕ

abbrev pub with_left : (Entry → ℕ) → Entry → Resting
with_left left e = record { entry = e; left = left e }

-- a day order of this instrument and side with leaves quantity above 0
abbrev pub rests : ℕ → Side → Resting → Bool
rests x side r = is_day r.entry.order.life && (r.entry.order.instrument == x && (is_side r.entry.order.side side && nat_lt 0 r.left))

-- insertion before the orders that it is not worse than
abbrev pub rank : Side → Resting → List Resting → List Resting
rank side r [] = r ∷ []
rank side r (s ∷ ss) = if is_better side s.entry.order.price r.entry.order.price then s ∷ rank side r ss else r ∷ s ∷ ss

-- orders, given by entry, in price-time priority
abbrev pub ranked : Side → List Resting → List Resting
ranked side [] = []
ranked side (r ∷ rs) = rank side r (ranked side rs)

-- the resting orders of an instrument and a side, in price-time priority
abbrev pub resting : List Fact → ℕ → Side → List Resting
resting facts x side = ranked side (filter (rests x side) (map (with_left (left facts)) (entries facts)))

-- fills

-- the opposite resting orders at the order's price or better
abbrev pub against : List Fact → OrderFact → List Resting
against facts o = filter (λ r. accepts o.side o.price r.entry.order.price) (resting facts o.instrument (opposite o.side))

-- the k-th share: the lesser of the k-th leaves quantity and what the earlier shares leave of the quantity
abbrev pub shares : ℕ → List ℕ → List ℕ
shares quantity lefts = map (λ p. min p.1 (quantity - sum (take p.0 lefts))) (enumerate_from 0 lefts)

-- an order's share with a resting order
pub record Fill : Type 0 where
  pub resting : Resting
  pub quantity : ℕ

abbrev pub paired : List Resting → List ℕ → List Fill
paired [] qs = []
paired (r ∷ rs) [] = []
paired (r ∷ rs) (q ∷ qs) = record { resting = r; quantity = q } ∷ paired rs qs

abbrev pub is_killed : TimeInForce → ℕ → ℕ → Bool
is_killed FillOrKill quantity available = nat_lt available quantity
is_killed _ quantity available = false

-- the positive fills of an entering order, best first; none for a fill-or-kill order that they would not fill
abbrev pub fills_with : OrderFact → List Resting → List Fill
fills_with o rs =
    if is_killed o.life o.quantity (sum_by (λ (r : Resting). r.left) rs) then [] else filter (λ f. nat_lt 0 f.quantity) (paired rs (shares o.quantity (map (λ (r : Resting). r.left) rs)))

abbrev pub fills : List Fact → OrderFact → List Fill
fills facts o = fills_with o (against facts o)

abbrev pub filled_by : List Fill → ℕ
filled_by fs = sum_by (λ f. f.quantity) fs

-- linked orders

abbrev pub is_same_link : Option (List ℕ) → Option (List ℕ) → Bool
is_same_link (Some a) (Some b) = bytes_eq a b
is_same_link _ _ = false

-- one participant, related participants, or the same link (17 CFR 37.9(b)(1))
abbrev pub is_linked : Market → OrderFact → OrderFact → Bool
is_linked m o p = o.who == p.who || (related m.participants o.who p.who || is_same_link o.link p.link)

-- a fill with a linked order that entered less than the delay before
abbrev pub is_too_soon : Market → OrderFact → ℕ → Fill → Bool
is_too_soon m o t f = is_linked m o f.resting.entry.order && nat_lt t (f.resting.entry.moment + delay_of m.instruments o.instrument)

-- the first fill that comes too soon, if any
abbrev pub too_soon : Market → List Fact → OrderFact → ℕ → Option Fill
too_soon m facts o t = find (is_too_soon m o t) (fills facts o)

-- the most orders that may rest on a side
abbrev pub side_capacity : ℕ
side_capacity = 200

-- a day order whose fills leave a rest, on a side at capacity
abbrev pub is_side_full : List Fact → OrderFact → Bool
is_side_full facts o = is_day o.life && (nat_lt (filled_by (fills facts o)) o.quantity && nat_le side_capacity (length (resting facts o.instrument o.side)))

-- the book snapshot

abbrev pub shown : Resting → SnapshotEntry
shown r = record { side = r.entry.order.side; price = r.entry.order.price; left = r.left; order = r.entry.number }

-- every resting order of an instrument: bids, then offers, each best first (17 CFR 37.9(a)(3))
abbrev pub picture : List Fact → ℕ → List SnapshotEntry
picture facts x = map shown (resting facts x Buy) ++ map shown (resting facts x Sell)

-- a participant's resting order by its current identifier
abbrev pub find_order : List Fact → ℕ → List ℕ → Option Resting
find_order facts who id =
    find (λ r. rests r.entry.order.instrument r.entry.order.side r && (r.entry.order.who == who && bytes_eq r.entry.order.id id)) (map (with_left (left facts)) (entries facts))

-- the filled quantity of an order, under replaced numbers too
abbrev pub filled : Resting → ℕ
filled r = r.entry.filled_before + (r.entry.order.quantity - r.left)
