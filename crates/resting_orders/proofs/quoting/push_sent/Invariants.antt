use Rattle.std.proofs.Common.{◌≡◌, ◌++◌, take}
use Rattle.std.specs.List.{filter_map}
use Rattle.resting_orders.specs.Quoting.{quoted_by}
use Rattle.resting_orders.proofs.quoting.push_sent.Given as goal

abbrev pub invariant-loop-reply : goal.invariant-loop-reply
invariant-loop-reply l = l.quotes.items ≡ l.fn.quotes.items ++ filter_map (quoted_by l.maker l.quote) (take l.reply-index l.replies)
