use Rattle.std.proofs.Common.{sym, arith}
use Rattle.desk_log.proofs.Integers.{integer_within}
use Rattle.desk_log.proofs.frames.body_length.Goals as goal

pub returns-in-Ok-clause-bound : goal.returns-in-Ok-clause-bound
returns-in-Ok-clause-bound c =
    let range = integer_within 4 999999 c.in-Ok.number c.args.digits.now (sym c.in-Ok.ensures) in
    (omega arith, range.0, range.1)
