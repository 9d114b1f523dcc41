use Rattle.std.proofs.Common.{◌≡◌, ◌++◌, take}
use Rattle.venue_core.specs.State.{standing}
use Rattle.venue_core.specs.VenueFacts.{IsHistory}
use Rattle.venue_rules.specs.Facts.{History}
use Rattle.resting_orders.specs.Resting.{books_shown}
use Rattle.resting_orders.proofs.rests.push_books.Given as goal

abbrev pub invariant-loop-place : goal.invariant-loop-place
invariant-loop-place l = (l.venue.market ≡ l.fn.venue.market) × (standing l.venue.day ≡ standing l.fn.venue.day) × (l.venue.items ≡ l.fn.venue.items)
    × ((h : History) → IsHistory l.fn.venue h → l.rested.items ≡ l.fn.rested.items ++ books_shown l.orders l.fn.venue.market h (take l.place l.fn.venue.market.instruments))
