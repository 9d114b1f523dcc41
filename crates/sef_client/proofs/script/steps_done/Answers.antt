use Rattle.std.proofs.Common.{subst}
use Rattle.sef_client.specs.Heard.{IsAwaited, applications}
use Rattle.sef_client.proofs.Counted.{awaited_next}
use Rattle.sef_client.proofs.script.steps_done.Goals as goal

pub returns-then-branch-clause-awaited : goal.returns-then-branch-clause-awaited
returns-then-branch-clause-awaited c =
    let heard = applications c.args.party.now.heard in
    let step = subst (IsAwaited heard) c.index-steps-done.is (c.in_ok-is_done.ensures.awaited c.if-branch.true) in
    awaited_next heard c.args.done c.args.steps.now c.index-steps-done.result c.if-done-steps.false c.requires.awaited step
