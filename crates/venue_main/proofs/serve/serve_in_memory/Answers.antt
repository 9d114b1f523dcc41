use Rattle.std.proofs.Common.{ap, [], arith}
use Rattle.venue_world.specs.ListRows.{ListedRows}
use Rattle.venue_main.proofs.Closed.{served_of}
use Rattle.venue_main.proofs.serve.serve_in_memory.Goals as goal

-- a new venue is where no rows lead
pub serve_over-requires-clause-history : goal.serve_over-requires-clause-history
serve_over-requires-clause-history g c κs within = ([], ap (λ (t : ListedRows). t.rows) c.new-trail.ensures, omega arith, c.in_ok-venue.ensures.history, (0, omega arith))

pub returns-clause-served : goal.returns-clause-served
returns-clause-served g c = served_of _ _ _ _ _ _ _ c.in_ok-venue.ensures.market (ap (λ (t : ListedRows). t.rows) c.new-trail.ensures) c.in_ok-closed.ensures.served
