use Rattle.std.specs.Prelude.{List, Option}
use Rattle.venue_rules.specs.declared.facts.Fact.{Fact}
use Rattle.venue_rules.specs.declared.facts.RoomQuote.{RoomQuote}
use Rattle.rfq_room.specs.declared.decision.Hit.{Hit}

-- the facts that a request adds, the quotes that it withdraws, and its hit
pub record Plan : Type 0 where
  pub facts : List Fact
  pub quotes : List RoomQuote
  pub hit : Option Hit
