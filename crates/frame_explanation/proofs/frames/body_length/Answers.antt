use Rattle.std.proofs.Common.{sym, arith}
use Rattle.frame_explanation.proofs.Integers.{integer_within}
use Rattle.frame_explanation.proofs.frames.body_length.Goals as goal

pub returns-in-Ok-clause-bound : goal.returns-in-Ok-clause-bound
returns-in-Ok-clause-bound c =
    let range = integer_within 4 65536 c.in-Ok.number c.args.digits.now (sym c.in-Ok.ensures) in
    (omega arith, range.0, range.1)
