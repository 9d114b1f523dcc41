use Rattle.std.specs.Prelude.{ℕ, List, map}
use Rattle.std.specs.List.{enumerate_from}
use Rattle.venue_rules.specs.declared.facts.Trade.{Trade}
use Rattle.venue_rules.specs.declared.trail.TradeFact.{TradeFact}
use Rattle.venue_rules.specs.Readings.{trade_fact}

-- readings of a day's trades, in order, and spare capacity
pub record Traded : Type 0 where
  pub trades : List TradeFact
  pub room : ℕ

-- readings of trades, numbered on from this number
abbrev pub read_from : ℕ → List Trade → List TradeFact
read_from number ts = map (λ p. trade_fact p.0 p.1) (enumerate_from number ts)
