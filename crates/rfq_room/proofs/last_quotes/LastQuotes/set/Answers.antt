use Rattle.std.proofs.Common.{◌≡◌, ◌≤◌, true, arith}
use Rattle.std.specs.Result.{is_ok}
use Rattle.rfq_room.specs.LastQuotes.{latest}
use Rattle.rfq_room.proofs.Hashed.{given-ok}
use Rattle.rfq_room.proofs.last_quotes.LastQuotes.set.Goals as goal

pub returns-clause-entries : goal.returns-clause-entries
returns-clause-entries c = λ r m.
    let room : 1 ≤ (latest c.self.inside).headroom = rw (← c.self.view_is) at c.requires in
    let ok : is_ok c.insert-before.result ≡ true = c.insert-before.ensures.succeeds (omega (arith, room)) in
    let updates = given-ok _ c.insert-before.result ok c.insert-before.ensures.updates in
    rw (← c.self.view_is) (rw c.place.ensures at (updates.0 (r, m)))
