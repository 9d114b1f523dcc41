use Rattle.std.proofs.Common.{rules}
use Rattle.gateway.proofs.threads.run_in_parallel.Goals as goal

pub scoped-requires : goal.scoped-requires
scoped-requires g c = record { at = λ x. (c.requires.own, (c.requires.work, (search rules, search rules, search rules, search rules))) }
