use Rattle.std.proofs.Common.{◌≡◌, filter, take}
use Rattle.resting_orders.specs.Rests.{is_quote_of}
use Rattle.resting_orders.proofs.rests.quotes_of.Given as goal

abbrev pub invariant-loop-quote : goal.invariant-loop-quote
invariant-loop-quote l = l.owned.items ≡ filter (is_quote_of l.who) (take l.quote-index l.quotes)
