use Rattle.std.specs.List.{find}
use Rattle.unrelated_recipients.specs.Threes.{is_unrelated, threes_of_one, threes_of_two}
use Rattle.unrelated_recipients.proofs.Found.{found_here, found_later}
use Rattle.unrelated_recipients.proofs.threes.first_of_one.Goals as goal

pub returns-in-Some : goal.returns-in-Some
returns-in-Some c =
    let p = is_unrelated c.args.participants.now c.args.requester in
    let rs = c.args.recipients.now in
    found_here p (λ b. threes_of_two c.args.first b rs) rs c.loop-second.second-index c.second-item.result c.first_of_two.result c.in-Some.three (find p (threes_of_one c.args.first rs))
    c.loop-second-test.true c.second-item.is c.first_of_two.ensures c.in-Some.is c.loop-second.invariant

pub loop-second-preserved : goal.loop-second-preserved
loop-second-preserved c =
    let p = is_unrelated c.args.participants.now c.args.requester in
    let rs = c.args.recipients.now in
    found_later p (λ b. threes_of_two c.args.first b rs) rs c.loop-second.second-index c.second-item.result c.first_of_two.result (find p (threes_of_one c.args.first rs))
    c.loop-second-test.true c.second-item.is c.first_of_two.ensures c.in-None.is c.loop-second.invariant
