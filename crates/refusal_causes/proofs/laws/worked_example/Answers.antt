use Rattle.std.proofs.Common.{refl}
use Rattle.std.specs.Fmt.{digits}
use Rattle.refusal_causes.proofs.laws.worked_example.Goals as goal

pub returns : goal.returns
unfolding digits
returns c = (refl, refl, refl, refl, refl, refl, refl)
