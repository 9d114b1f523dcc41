use Rattle.std.proofs.Common.{◌≡◌, drop}
use Rattle.fix_validation.specs.Faults.{has_tag}
use Rattle.fix_validation.specs.Positions.{part, places}
use Rattle.fix_validation.proofs.group_faults.has_tag.Given as goal

abbrev pub invariant-loop-one : goal.invariant-loop-one
invariant-loop-one l = has_tag l.tag (part l.place (places l.located)) ≡ has_tag l.tag (part l.place (places (drop l.one-index l.located)))
