use Rattle.std.specs.Io.KnownBytes.{Appends}
use Rattle.std.proofs.Common.{◌≡◌, ℕ, List, subst, Some, slice_get}
use Rattle.venue_world.specs.Side.{Side}
use Rattle.venue_world.specs.declared.world_event.WorldEvent.TheVariants.{Alone}
use Rattle.venue_world.specs.declared.world_event.SessionEvent.TheVariants.{Writes}
use Rattle.once_session.proofs.Events.{alone-first, given-first, wire-first}
use Rattle.once_session.proofs.Going.{went-one}
use Rattle.once_session.proofs.answering.write_queued.Goals as goal

pub returns-in-Ok-clause-wrote : goal.returns-in-Ok-clause-wrote
returns-in-Ok-clause-wrote g c = λ t.
    let old = c.args.world.now in
    let new = c.take_wire-queued.new.self in
    let bytes = c.take_wire-queued.result.items in
    let is = wire-first bytes old.sides c.requires.first (subst (λ (n : ℕ). (s : Side) → slice_get old.sides n ≡ Some s → bytes ≡ s.session.wire) c.first.ensures c.take_wire-queued.ensures.taken) in
    record {
      given = bytes;
      went = went-one t (Alone 0 Writes) old new bytes (alone-first c.first.result Writes old new c.first.ensures c.take_wire-queued.ensures.act) (λ r w shows. tt) (λ w shows. given-first w old bytes shows is);
      written = subst (λ (l : List ℕ). Appends (g.W.Write.contents c.args.writer.now) (g.W.Write.contents c.write_all.new.self) l) c.deref.ensures.value c.in-Ok.ensures.bytes;
    }
