use Rattle.std.proofs.Common.{◌≡◌, map, take}
use Rattle.toml.specs.View.{view}
use Rattle.instruments.specs.Reading.{row_of}
use Rattle.instruments.proofs.reading.rows_in.Given as goal

abbrev pub invariant-loop-entry : goal.invariant-loop-entry
invariant-loop-entry l = l.rows.items ≡ map (λ entry. row_of (view entry)) (take l.entry-index l.list)
