use Rattle.std.proofs.Common.{◌≡◌, ◌≤◌, ◌++◌, drop}
use Rattle.fix_fields.specs.Views.{entries}
use Rattle.fix_validation.specs.Positions.{located, places, start}
use Rattle.fix_validation.proofs.positions.located.Given as goal

abbrev pub invariant-loop-field : goal.invariant-loop-field
invariant-loop-field l = (places l.all.items ++ located l.header l.rows l.state (entries (drop l.field-index l.fields)) ≡ located l.header l.rows start (entries l.fields)) × (l.state.begun ≤ l.field-index)
