-- What the rows of every day keep.
use Rattle.std.specs.Prelude.{List}
use Rattle.venue_rules.specs.declared.trail.TrailRow.{TrailRow}
use Rattle.venue_rules.specs.Run.{Input}
use Rattle.venue_core.specs.Replay.{AreEmitted}
use Rattle.row_replay.specs.Inputs.{AreOf}

-- inputs that rows stand for are the inputs of these rows
abbrev pub AreTheirs : Type 0
AreTheirs = (rs : List TrailRow) (items : List Input) → AreEmitted rs items → AreOf rs items
