use Rattle.std.proofs.Common.{rules, refl}
use Rattle.sef_replay.specs.Compared.{read_side}
use Rattle.sef_replay.proofs.OverBytes.{or_begun}
use Rattle.sef_replay.proofs.comparing.print_compared.Goals as goal

pub returns-in-Err-Memory-clause-failed : goal.returns-in-Err-Memory-clause-failed
returns-in-Err-Memory-clause-failed g c =
    or_begun _ _ _ (c.in-Err-Memory.ensures.begun (search rules))
    (λ begun. record { a = read_side c.in-Ok.day; b = read_side c.in-Ok-day_of.day; is_a = c.in-Ok.ensures.read; is_b = c.in-Ok-day_of.ensures.read; begins = begun })
