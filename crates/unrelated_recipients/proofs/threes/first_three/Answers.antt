use Rattle.std.specs.Prelude.{is_some}
use Rattle.std.proofs.Common.{◌∙◌, ap}
use Rattle.unrelated_recipients.proofs.Found.{found_are_unrelated, three_are_found}
use Rattle.unrelated_recipients.proofs.threes.first_three.Goals as goal

pub returns-clause-found : goal.returns-clause-found
returns-clause-found c = ap is_some c.first_of_all.ensures ∙ three_are_found c.args.participants.now c.args.requester c.args.recipients.now

pub returns-clause-unrelated : goal.returns-clause-unrelated
returns-clause-unrelated c = rw c.first_of_all.ensures (found_are_unrelated c.args.participants.now c.args.requester c.args.recipients.now)
