use Rattle.std.specs.Prelude.{List}
use Rattle.venue_rules.specs.declared.facts.Fact.{Fact}

-- the facts that a request adds
pub record Plan : Type 0 where
  pub facts : List Fact
