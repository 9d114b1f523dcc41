-- The bytes that a step leaves unread.
use Rattle.std.specs.Prelude.{ℕ, ◌≤◌, ◌<◌}
use Rattle.fix_session.specs.declared.plan.Step.{Step}
use Rattle.fix_session.specs.declared.plan.Step.TheVariants.{Idle}

-- the number of bytes unread after a step with this answer, and before it: fewer where it did something
abbrev pub Shortens : Step → ℕ → ℕ → Type 0
Shortens Idle before after = after ≤ before
Shortens answer before after = after < before
