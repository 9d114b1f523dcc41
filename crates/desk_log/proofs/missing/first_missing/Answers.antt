use Rattle.std.proofs.Common.{◌<◌, arith}
use Rattle.std.proofs.lemmas.Bool.Decides.{nat_tests}
use Rattle.desk_log.proofs.Gaps.{pass_more}
use Rattle.desk_log.proofs.missing.first_missing.Goals as goal

pub times-preserved : goal.times-preserved
times-preserved c =
    let some : 0 < c.times.left = grind (arith, nat_tests, c.times-test.true) in
    pass_more c.args.era c.times.left c.times.due c.due_behind-later.result c.args.frames.now _ some c.due_behind-later.ensures c.if-later-due.false c.times.invariant
