use Rattle.unrelated_recipients.specs.Threes.{first_three, is_unrelated, threes_of_one}
use Rattle.unrelated_recipients.proofs.Found.{found_here, found_later}
use Rattle.unrelated_recipients.proofs.threes.first_of_all.Goals as goal

pub returns-in-Some : goal.returns-in-Some
returns-in-Some c =
    let rs = c.args.recipients.now in
    found_here (is_unrelated c.args.participants.now c.args.requester) (λ a. threes_of_one a rs) rs c.loop-first.first-index c.first-item.result c.first_of_one.result c.in-Some.three (first_three c.args.participants.now c.args.requester rs)
    c.loop-first-test.true c.first-item.is c.first_of_one.ensures c.in-Some.is c.loop-first.invariant

pub loop-first-preserved : goal.loop-first-preserved
loop-first-preserved c =
    let rs = c.args.recipients.now in
    found_later (is_unrelated c.args.participants.now c.args.requester) (λ a. threes_of_one a rs) rs c.loop-first.first-index c.first-item.result c.first_of_one.result (first_three c.args.participants.now c.args.requester rs)
    c.loop-first-test.true c.first-item.is c.first_of_one.ensures c.in-None.is c.loop-first.invariant
