use Rattle.std.specs.Prelude.{ℕ, List}
use Rattle.venue_rules.specs.declared.facts.Fact.{Fact}

-- spare capacity, in facts
pub record Spare : Type 0 where
  pub headroom : ℕ

-- the facts of the delay, in order, and spare capacity
pub record Contents : Type 0 where
  pub facts : List Fact
  pub spare : Spare
