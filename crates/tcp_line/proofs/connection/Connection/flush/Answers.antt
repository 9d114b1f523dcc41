use Rattle.std.proofs.Common.{subst}
use Rattle.std.proofs.lemmas.Result.{err_from_is_err_and}
use Rattle.tcp_line.specs.Link.{Link, TookPart}
use Rattle.tcp_line.proofs.connection.Connection.flush.Goals as goal

pub returns-in_err-give-clause-bytes : goal.returns-in_err-give-clause-bytes
returns-in_err-give-clause-bytes g c =
    let passed_on = err_from_is_err_and c.from_residual.result c.from_residual.ensures.1 in
    let part = subst (TookPart (g.O.Write.contents c.self.inside.output) (g.O.Write.contents c.give.new.output)) c.deref.ensures.value c.in_err-give.ensures in
    rw passed_on.1 (subst (λ (l : Link). TookPart l.taken (g.O.Write.contents c.give.new.output) l.waiting) c.self.view_is part)
