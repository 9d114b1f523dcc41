use Rattle.std.proofs.Common.{◌∙◌, sym, ap, [], ◌∷◌, Bool}
use Rattle.file_diagnosis.specs.declared.cause.Wrong.TheVariants.{Twice}
use Rattle.file_diagnosis.specs.Causes.{first_wrong}
use Rattle.file_diagnosis.proofs.Lists.{pair_seen}
use Rattle.file_diagnosis.proofs.entry.repeated_pair.Goals as goal

pub returns-then-has_pair : goal.returns-then-has_pair
returns-then-has_pair c = ap (λ (b : Bool). first_wrong ((b, Twice) ∷ [])) (sym c.if-has_pair.true) ∙ pair_seen c.args.before.now c.args.pair.now c.has_pair.result c.has_pair.ensures

pub returns-else-has_pair : goal.returns-else-has_pair
returns-else-has_pair c = ap (λ (b : Bool). first_wrong ((b, Twice) ∷ [])) (sym c.if-has_pair.false) ∙ pair_seen c.args.before.now c.args.pair.now c.has_pair.result c.has_pair.ensures
