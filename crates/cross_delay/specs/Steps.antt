use Rattle.std.specs.Prelude.{◌≡◌, ℕ, ◌≤◌, false, List, [], length, Option, IsSome}
use Rattle.venue_rules.specs.declared.facts.Fact.{Fact}
use Rattle.venue_rules.specs.declared.facts.HeldSide.{HeldSide}
use Rattle.venue_rules.specs.Facts.{is_order_id_used}
use Rattle.venue_rules.specs.Delay.{find_held}
use Rattle.cross_delay.specs.Contents.{Contents}
use Rattle.cross_delay.specs.Plans.{drop_plan, hold_plan, is_full}

-- a step of held sides: nothing; a side is held; the hold of a participant's side with an identifier ends
pub data Step : Type 0 where
  Nothing : Step
  Holds : HeldSide → Step
  Drops : ℕ → List ℕ → Option (List ℕ) → Step

-- the facts of a step
abbrev pub facts_of : Step → List Fact
facts_of Nothing = []
facts_of (Holds h) = (hold_plan h).facts
facts_of (Drops who id cancel) = (drop_plan who id cancel).facts

-- a side is held below capacity under a new identifier; a dropped side is held
abbrev pub IsAllowed : List Fact → Step → Type 0
IsAllowed facts Nothing = Unit {0}
IsAllowed facts (Holds h) = (is_full facts ≡ false) × (is_order_id_used facts h.order.who h.order.id ≡ false)
IsAllowed facts (Drops who id cancel) = IsSome (find_held facts who id)

-- the facts of a step from this state, within capacity
pub record IsPlanOf (delay : Contents) (added : List Fact) : Type 0 where
  pub step : Step
  pub allowed : IsAllowed delay.facts step
  pub made : added ≡ facts_of step
  pub headroom : length added ≤ delay.spare.headroom
