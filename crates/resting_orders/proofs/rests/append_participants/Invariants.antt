use Rattle.std.proofs.Common.{◌≡◌, ◌++◌}
use Rattle.resting_orders.specs.Rests.{participants_text}
use Rattle.resting_orders.proofs.rests.append_participants.Given as goal

abbrev pub invariant-loop-place : goal.invariant-loop-place
invariant-loop-place l = l.text.items ≡ l.fn.text.items ++ participants_text l.page.form l.page.participants.now l.page.instruments.now l.page.end (record { orders = l.found.orders.now; held = l.found.held.now; requests = l.found.requests.now; quotes = l.found.quotes.now }) l.place
