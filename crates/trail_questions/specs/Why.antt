-- Why a message was refused.
use Rattle.std.specs.Prelude.{ℕ, List}
use Rattle.venue_rules.specs.declared.trail.TrailRow.{TrailRow}
use Rattle.refusal_causes.specs.Printed.{IsNoRow}
use Rattle.trail_questions.specs.declared.fault.Unknown.{Unknown}
use Rattle.trail_questions.specs.declared.fault.Unknown.TheVariants.{Row}

-- the trail has no such row
abbrev pub IsUnknownWhy : ℕ → List TrailRow → Unknown → Type 0
IsUnknownWhy number rows Row = IsNoRow rows number
IsUnknownWhy number rows _ = ⊥
