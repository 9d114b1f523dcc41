use Rattle.std.proofs.Common.{length, refl}
use Rattle.std.proofs.lemmas.List.{length-map}
use Rattle.venue_main.proofs.Closed.{emits_read}
use Rattle.venue_main.proofs.serve.serve.Goals as goal

pub returns-in-Ok-clause-emitted : goal.returns-in-Ok-clause-emitted
returns-in-Ok-clause-emitted g c =
    let closed = c.in_ok-closed.closed in
    emits_read _ _ _ _ (length closed.sessions.items) closed.keeper.rows _ _ c.in_ok-closed.ensures.served (length-map closed.sessions.items _) refl c.in-Ok.ensures
