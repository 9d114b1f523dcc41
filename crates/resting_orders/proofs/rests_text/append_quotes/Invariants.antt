use Rattle.std.proofs.Common.{◌≡◌, ◌++◌, take}
use Rattle.std.specs.List.{flat_map}
use Rattle.resting_orders.specs.Rests.{quote_text}
use Rattle.resting_orders.proofs.rests_text.append_quotes.Given as goal

abbrev pub invariant-loop-quote : goal.invariant-loop-quote
invariant-loop-quote l = l.text.items ≡ l.fn.text.items ++ flat_map (quote_text l.page.form l.page.participants.now l.page.end l.who) (take l.quote-index l.quotes)
