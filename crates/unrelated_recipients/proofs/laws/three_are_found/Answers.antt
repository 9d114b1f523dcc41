use Rattle.unrelated_recipients.proofs.Found.{found_are_unrelated, three_are_found}
use Rattle.unrelated_recipients.proofs.laws.three_are_found.Goals as goal

pub returns-clause-found : goal.returns-clause-found
returns-clause-found c = three_are_found

pub returns-clause-unrelated : goal.returns-clause-unrelated
returns-clause-unrelated c = found_are_unrelated
