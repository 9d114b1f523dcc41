use Rattle.unrelated_recipients.proofs.Paired.{none_are_related}
use Rattle.unrelated_recipients.proofs.laws.none_are_related.Goals as goal

pub returns : goal.returns
returns c = none_are_related
