use Rattle.std.specs.Prelude.{◌≡◌, ℕ, Bool, true, nat_le, List, [], ◌∷◌, length, Option}
use Rattle.venue_rules.specs.declared.facts.Fact.{Fact}
use Rattle.venue_rules.specs.declared.facts.Fact.TheVariants.{Held, Unheld}
use Rattle.venue_rules.specs.declared.facts.HeldSide.{HeldSide}
use Rattle.venue_rules.specs.Delay.{held, held_capacity}
use Rattle.cross_delay.specs.declared.held.Refusal.{Refusal}
use Rattle.cross_delay.specs.declared.held.Refusal.TheVariants.{Full, NoMemory}
use Rattle.cross_delay.specs.Plan.{Plan}

-- the held sides are at capacity
abbrev pub is_full : List Fact → Bool
is_full facts = nat_le held_capacity (length (held facts))

-- a plan that changes nothing
abbrev pub no_plan : Plan
no_plan = record { facts = [] }

-- the plan to hold a side
abbrev pub hold_plan : HeldSide → Plan
hold_plan h = record { facts = Held h ∷ [] }

-- the plan to end a hold: by a cancel with this identifier, or, with none, because the side came due
abbrev pub drop_plan : ℕ → List ℕ → Option (List ℕ) → Plan
drop_plan who id cancel = record { facts = Unheld (record { who = who; id = id; cancel = cancel }) ∷ [] }

-- causes that refuse to hold a side
abbrev pub IsHoldRefused : List Fact → Refusal → Type 0
IsHoldRefused facts Full = is_full facts ≡ true
IsHoldRefused facts NoMemory = Unit {0}
