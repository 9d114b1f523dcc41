use Rattle.std.proofs.Common.{◌≡◌, ◌-◌, ℕ}
use Rattle.venue_rules.specs.Facts.{History}
use Rattle.venue_core.specs.VenueFacts.{IsHistory}
use Rattle.venue_core.specs.Taking.{IsSame}
use Rattle.refusal_causes.specs.Why.{IsBetween}
use Rattle.refusal_causes.proofs.why.first_between.Given as goal

abbrev pub invariant-halves : goal.invariant-halves
invariant-halves l =
    IsSame l.fn.venue l.venue × (l.venue.items ≡ l.fn.venue.items)
    × ((h : History) (t : ℕ) → IsHistory l.fn.venue h → IsBetween l.fn.venue.market h l.taken t l.fn.low l.fn.high → IsBetween l.fn.venue.market h l.taken t l.low l.high)

abbrev pub decreases-halves : goal.decreases-halves
decreases-halves l = l.high - l.low
