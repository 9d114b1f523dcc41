-- What each row's answer says of orders that enter, as it is kept while rows are replayed: every order that
-- entered, with its owner, and where it entered.
use Rattle.std.specs.Prelude.{ℕ, List, [], ◌∷◌, ◌++◌, map, Option, Some, None}
use Rattle.std.specs.List.{filter_map}
use Rattle.venue_rules.specs.declared.facts.Entry.{Entry}
use Rattle.venue_rules.specs.declared.replies.OrderReport.{OrderReport}
use Rattle.venue_rules.specs.declared.replies.Reply.{Reply}
use Rattle.venue_rules.specs.declared.replies.ReplyBody.{ReplyBody}
use Rattle.venue_rules.specs.declared.replies.ReplyBody.TheVariants as what
use Rattle.venue_rules.specs.declared.trail.TrailRow.{TrailRow}
use Rattle.venue_rules.specs.Facts.{History, entries, no_history}
use Rattle.venue_rules.specs.Market.{Market}
use Rattle.venue_rules.specs.Run.{Input, after, answer_input}
use Rattle.resting_orders.specs.declared.noted.EnteredAt.{EnteredAt}
use Rattle.resting_orders.specs.declared.noted.EnteredOrder.{EnteredOrder}

-- an order as it entered by a row: its number, its owner, the owner's identifier (11), its quantity, what had been
-- filled under the numbers that it replaced, the row, and the moment by which its priority counts
abbrev pub entered_order : ℕ → Entry → EnteredOrder
entered_order row e = record { number = e.number; owner = e.order.who; id = e.order.id; quantity = e.order.quantity; filled_before = e.filled_before; at = record { row = row; moment = e.moment } }

-- the orders that entered by the inputs of rows, one after another, from a history on
abbrev pub entered_from : Market → History → List TrailRow → List Input → List EnteredOrder
entered_from m h [] is = []
entered_from m h (r ∷ rs) [] = []
entered_from m h (r ∷ rs) (i ∷ is) = map (entered_order r.n) (entries (answer_input m h i).facts) ++ entered_from m (after h (answer_input m h i)) rs is

-- and on a day: each order of the rules, with the row that it entered by
abbrev pub entered_on : Market → List TrailRow → List Input → List EnteredOrder
entered_on m rs is = entered_from m no_history rs is

-- An order that enters is reported to its owner as new, or as a replacement.

abbrev pub entered_as : EnteredAt → ℕ → OrderReport → Option ℕ → Option EnteredOrder
entered_as at owner r None = None
entered_as at owner r (Some number) = Some (record { number = number; owner = owner; id = r.id; quantity = r.left; filled_before = r.filled; at = at })

abbrev pub entered_what : EnteredAt → ℕ → ReplyBody → Option EnteredOrder
entered_what at owner (what.OrderEntered r) = entered_as at owner r r.order
entered_what at owner (what.OrderReplaced r) = entered_as at owner r.order r.order.order
entered_what at owner _ = None

abbrev pub entered_by : EnteredAt → Reply → Option EnteredOrder
entered_by at r = entered_what at r.to r.what

abbrev pub orders_after : EnteredAt → List EnteredOrder → List Reply → List EnteredOrder
orders_after at orders replies = orders ++ filter_map (entered_by at) replies
