use Rattle.std.proofs.lemmas.Result.{on_ok_weaker}
use Rattle.trade_reconstruction.specs.Emitted.{evidence_by}
use Rattle.trade_reconstruction.proofs.Emitting.{first_begun, first_joined, memory_weaker}
use Rattle.trade_reconstruction.proofs.day.print_from.Goals as goal

pub returns-clause-emitted : goal.returns-clause-emitted
returns-clause-emitted g c =
    let a = c.args in
    let f = evidence_by a.venue.now.market a.rows.now a.day.now.words a.day.now.notes.items in
    on_ok_weaker c.print_behind.result (first_joined f a.first.now a.rest.now _ _ _ c.in_ok-print_first.ensures.emitted) c.print_behind.ensures.emitted

pub returns-clause-begun : goal.returns-clause-begun
returns-clause-begun g c =
    let a = c.args in
    let f = evidence_by a.venue.now.market a.rows.now a.day.now.words a.day.now.notes.items in
    memory_weaker c.print_behind.result _ _ (first_begun f a.first.now a.rest.now _ _ _ c.in_ok-print_first.ensures.emitted) c.print_behind.ensures.begun
