use Rattle.std.specs.Prelude.{ℕ, ◌+◌, ◌-◌, not, ◌&&◌, nat_lt, List, [], ◌∷◌, ◌++◌, Some, if◌then◌else◌, sum_by}
use Rattle.venue_rules.specs.declared.facts.Entry.{Entry}
use Rattle.venue_rules.specs.declared.replies.Reply.{Reply}
use Rattle.venue_rules.specs.declared.replies.OrderReport.{OrderReport}
use Rattle.venue_rules.specs.declared.replies.ReplyBody.TheVariants.{OrderEntered, OrderFilled, OrderUnfilled, OrderReplaced}
use Rattle.venue_rules.specs.Answer.{reply}
use Rattle.venue_rules.specs.Book.{is_day}
use Rattle.price_book.specs.declared.plan.FilledOrder.{FilledOrder}

-- a report on an entering order, with its leaves quantity and filled quantity
abbrev pub entry_report : List ℕ → Entry → ℕ → ℕ → ℕ → OrderReport
entry_report symbol e left filled n = record { report = n; order = Some e.number; symbol = symbol; side = e.order.side; left = left; filled = filled; id = e.order.id }

-- a report on a filled resting order
abbrev pub resting_report : List ℕ → FilledOrder → ℕ → OrderReport
resting_report symbol g n = record { report = n; order = Some g.number; symbol = symbol; side = g.side; left = g.left; filled = g.filled; id = g.id }

-- the report of a fill to one of its two orders
abbrev pub filled_reply : ℕ → OrderReport → FilledOrder → ℕ → Reply
filled_reply who r g trade = reply who (OrderFilled (record { order = r; price = g.price; quantity = g.quantity; trade = trade }))

-- the reports of fills, one after another: after this filled quantity, from this trade on
abbrev pub walked : List ℕ → Entry → ℕ → ℕ → List FilledOrder → List (ℕ → Reply)
walked symbol e so_far trade [] = []
walked symbol e so_far trade (g ∷ gs) =
    (λ n. filled_reply e.order.who (entry_report symbol e (e.order.quantity - (so_far + g.quantity)) (e.filled_before + (so_far + g.quantity)) n) g trade)
    ∷ (λ n. filled_reply g.who (resting_report symbol g n) g trade)
    ∷ walked symbol e (so_far + g.quantity) (trade + 1) gs

-- the report of a cancelled rest, if any
abbrev pub rest_reports : List ℕ → Entry → ℕ → List (ℕ → Reply)
rest_reports symbol e so_far = if not (is_day e.order.life) && nat_lt so_far e.order.quantity then (λ n. reply e.order.who (OrderUnfilled (entry_report symbol e 0 (e.filled_before + so_far) n))) ∷ [] else []

abbrev pub total : List FilledOrder → ℕ
total gs = sum_by (λ (g : FilledOrder). g.quantity) gs

-- the reports of an entering order: that it is new, its fills, and a cancelled rest
abbrev pub reports_of : List ℕ → Entry → ℕ → List FilledOrder → List (ℕ → Reply)
reports_of symbol e trade gs = (λ n. reply e.order.who (OrderEntered (entry_report symbol e e.order.quantity 0 n))) ∷ (walked symbol e 0 trade gs ++ rest_reports symbol e (total gs))

-- the reports of a replacing order: that it replaces, its fills, and a cancelled rest
abbrev pub replaced_reports : ℕ → List ℕ → List ℕ → Entry → ℕ → List FilledOrder → List (ℕ → Reply)
replaced_reports who original symbol e trade gs = (λ n. reply who (OrderReplaced (record { order = entry_report symbol e e.order.quantity e.filled_before n; original_id = original }))) ∷ (walked symbol e 0 trade gs ++ rest_reports symbol e (total gs))
