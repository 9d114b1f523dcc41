use Rattle.std.proofs.Common.{◌≡◌, drop}
use Rattle.fix_validation.specs.Positions.{places, first_begin}
use Rattle.fix_validation.proofs.positions.first_begin.Given as goal

abbrev pub invariant-loop-one : goal.invariant-loop-one
invariant-loop-one l = first_begin l.first (places l.located) ≡ first_begin l.first (places (drop l.one-index l.located))
