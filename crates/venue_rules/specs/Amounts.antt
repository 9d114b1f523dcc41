use Rattle.std.specs.Prelude.{◌≡◌, ℕ, ◌+◌, ◌^◌, ◌≤◌, ◌<◌, true, Bool, ◌&&◌, nat_le, List, take, Contains}
use Rattle.std.specs.List.{list_all}
use Rattle.fix_dictionary.specs.Values.{IsText, is_printable}
use Rattle.fix_dictionary.specs.declared.messages.App.{App}
use Rattle.fix_dictionary.specs.declared.messages.App.TheVariants.{NewOrderSingle, OrderCancelReplaceRequest, NewOrderCross}
use Rattle.venue_rules.specs.declared.facts.Fact.{Fact}
use Rattle.venue_rules.specs.declared.facts.Fact.TheVariants.{Entered, Held}
use Rattle.venue_rules.specs.declared.facts.OrderFact.{OrderFact}
use Rattle.venue_rules.specs.Market.{Market}
use Rattle.venue_rules.specs.Facts.{History}
use Rattle.venue_rules.specs.Book.{Fill, fills, filled_by}
use Rattle.venue_rules.specs.Rooms.{printed}
use Rattle.venue_rules.specs.Run.{Input, Message, Tick, after, answer_input}

-- Leaves quantities and filled quantities within the greatest amount of a message.

abbrev pub greatest_amount : ℕ
greatest_amount = 1_000_000_000_000_000

-- what was filled under replaced numbers, plus the order's quantity, is an amount; so is a held side's quantity
abbrev pub is_within : Fact → Bool
is_within (Entered e) = nat_le (e.filled_before + e.order.quantity) greatest_amount
is_within (Held h) = nat_le h.order.quantity greatest_amount
is_within _ = true

abbrev pub are_within : List Fact → Bool
are_within facts = list_all is_within facts

-- the quantities of a message are amounts, as decoding ensures
abbrev pub asks_within : App → Bool
asks_within (NewOrderSingle d) = nat_le d.quantity greatest_amount
asks_within (OrderCancelReplaceRequest d) = nat_le d.quantity greatest_amount
asks_within (NewOrderCross d) = nat_le d.first.quantity greatest_amount && nat_le d.second.quantity greatest_amount
asks_within _ = true

abbrev pub is_input_within : Input → Bool
is_input_within (Message taken t) = asks_within taken.item.app
is_input_within (Tick t) = true

-- an answer keeps the facts within, where they were and the input's quantities are
abbrev pub AmountsStayWithin : Type 0
AmountsStayWithin = (m : Market) (h : History) (i : Input) → are_within h.facts ≡ true → is_input_within i ≡ true → are_within (after h (answer_input m h i)).facts ≡ true

-- the first k fills of an order add up to at most its quantity, for each k; each is at most its resting order's leaves
-- quantity
abbrev pub FillsAreWithin : Type 0
FillsAreWithin = (facts : List Fact) (o : OrderFact) → ((k : ℕ) → filled_by (take k (fills facts o)) ≤ o.quantity) × (filled_by (fills facts o) ≤ o.quantity) × ((f : Fill) → Contains (fills facts o) f → (0 < f.quantity) × (f.quantity ≤ f.resting.left))

-- the identifier printed for a 64-bit number has the form of one
abbrev pub PrintedNumbersAreIdentifiers : Type 0
PrintedNumbersAreIdentifiers = (prefix n : ℕ) → is_printable prefix ≡ true → n < 2 ^ 64 → IsText 64 (printed prefix n)
