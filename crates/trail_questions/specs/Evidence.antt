-- The evidence for a trade, or for all.
use Rattle.std.specs.Prelude.{ℕ, List, Option, Some}
use Rattle.venue_rules.specs.Market.{Market}
use Rattle.venue_rules.specs.declared.trail.TrailRow.{TrailRow}
use Rattle.trade_reconstruction.specs.Emitted.{BeginsTrades, EmitsTrades, HasNoTrade}
use Rattle.trail_digest.specs.Trail.{Trail}
use Rattle.trail_digest.specs.declared.head.HeadForm.TheVariants as head
use Rattle.trail_questions.specs.Headed.{Heads}
use Rattle.trail_questions.specs.declared.fault.Unknown.{Unknown}
use Rattle.trail_questions.specs.declared.fault.Unknown.TheVariants.{Trade}

-- the day has no trade with this number
abbrev pub IsUnknownTrade : ℕ → Market → List TrailRow → Unknown → Type 0
IsUnknownTrade number m rows Trade = HasNoTrade m rows number
IsUnknownTrade number m rows _ = ⊥

-- The output is the evidence for every trade of the day, behind its own head.
pub record EmitsEvidences (m : Market) (trail : Trail) (before after : Option (List ℕ)) : Type 0 where
  pub mid : Option (List ℕ)
  pub headed : Heads (Some head.Line) trail before mid
  pub emits : EmitsTrades m trail.rows mid after

-- or the head, and nothing or the evidence for the first trades
pub record BeginsEvidences (m : Market) (trail : Trail) (before after : Option (List ℕ)) : Type 0 where
  pub mid : Option (List ℕ)
  pub headed : Heads (Some head.Line) trail before mid
  pub begins : BeginsTrades m trail.rows mid after
