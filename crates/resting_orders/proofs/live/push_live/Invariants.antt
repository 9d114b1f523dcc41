use Rattle.std.proofs.Common.{◌≡◌, ◌++◌, filter, take}
use Rattle.venue_core.specs.State.{standing}
use Rattle.venue_core.specs.VenueFacts.{IsHistory}
use Rattle.venue_rules.specs.Facts.{History}
use Rattle.resting_orders.specs.Quoting.{still_live}
use Rattle.resting_orders.proofs.live.push_live.Given as goal

abbrev pub invariant-loop-quote : goal.invariant-loop-quote
invariant-loop-quote l = (l.venue.market ≡ l.fn.venue.market) × (standing l.venue.day ≡ standing l.fn.venue.day) × (l.venue.items ≡ l.fn.venue.items)
    × ((h : History) → IsHistory l.fn.venue h → l.live.items ≡ l.fn.live.items ++ filter (still_live l.fn.venue.market h l.moment) (take l.quote-index l.quotes))
