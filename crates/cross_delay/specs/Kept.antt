use Rattle.std.specs.Prelude.{◌≡◌, ◌≤◌, Bool, true, List, length}
use Rattle.std.specs.List.{list_all}
use Rattle.venue_rules.specs.declared.facts.Fact.{Fact}
use Rattle.venue_rules.specs.Delay.{held, held_capacity}
use Rattle.cross_delay.specs.DelayFacts.{is_delay_fact}

-- facts of the delay alone
abbrev pub are_own : List Fact → Bool
are_own facts = list_all is_delay_fact facts

-- the invariant of the delay's facts
pub record IsDelay (facts : List Fact) : Type 0 where
  pub own : are_own facts ≡ true
  pub few : length (held facts) ≤ held_capacity
