use Rattle.std.proofs.Common.{◌≡◌, ◌++◌, drop}
use Rattle.fix_fields.specs.Views.{entries}
use Rattle.fix_validation.specs.Positions.{part, places}
use Rattle.fix_validation.proofs.positions.part.Given as goal

abbrev pub invariant-loop-one : goal.invariant-loop-one
invariant-loop-one l = entries l.fields.items ++ part l.place (places (drop l.one-index l.located)) ≡ part l.place (places l.located)
