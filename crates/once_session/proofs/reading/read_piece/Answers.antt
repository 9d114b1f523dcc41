use Rattle.std.proofs.Common.{ℕ, List, [], refl, subst, length-take, take, arith}
use Rattle.std.specs.Io.KnownBytes.{Consumes}
use Rattle.std.proofs.KnownBytes.{Consumes-kept, Consumes-nil}
use Rattle.fix_session.specs.Reader.{Reader}
use Rattle.venue_world.specs.declared.world_event.WorldEvent.TheVariants.{Alone}
use Rattle.venue_world.specs.declared.world_event.SessionEvent.TheVariants.{Pieces}
use Rattle.venue_world.specs.Seen.{Done}
use Rattle.once_session.specs.Reading.{IsLost}
use Rattle.once_session.proofs.Events.{alone-first, alone-sides, may-come, piece-first}
use Rattle.once_session.proofs.Going.{went-one}
use Rattle.once_session.proofs.Outcomes.{if_err}
use Rattle.once_session.proofs.reading.read_piece.Goals as goal

pub returns-clause-read : goal.returns-clause-read
returns-clause-read g c =
    let old = c.args.world.now in
    let new = c.event.new.self in
    let piece = take c.in-Ok.count c.read.new.buf in
    let done = alone-first c.first.result (Pieces piece) old new c.first.ensures
    (subst (λ (l : List ℕ). (r : Reader) → Done r (Alone c.first.result (Pieces l)) old new) c.of.ensures c.in_ok-event.ensures.ok) in
    record {
      piece = piece;
      consumed = c.in-Ok.ensures.bytes.0;
      came = λ t. went-one t (Alone 0 (Pieces piece)) old new [] done (λ r w shows. may-come r t piece w old shows c.requires.answered c.requires.heard) (λ w shows. refl);
    }

pub returns-clause-answered : goal.returns-clause-answered
returns-clause-answered g c =
    let r = c.one_reader.ensures.some in
    let old = c.args.world.now in
    let new = c.event.new.self in
    let piece = take c.in-Ok.count c.read.new.buf in
    let done = alone-first c.first.result (Pieces piece) old new c.first.ensures
    (subst (λ (l : List ℕ). (r : Reader) → Done r (Alone c.first.result (Pieces l)) old new) c.of.ensures c.in_ok-event.ensures.ok) in
    piece-first r piece old.sides new.sides (alone-sides r (Pieces piece) old new c.requires.somewhere (done r)) c.requires.answered

pub returns-then-count-eq0-clause-read : goal.returns-then-count-eq0-clause-read
returns-then-count-eq0-clause-read g c = record {
  same = refl;
  consumed = subst (λ (n : ℕ). Consumes (g.R.Read.remaining c.args.reader.now) (g.R.Read.remaining c.read.new.self) (take n c.read.new.buf)) c.if-count-eq0.true c.in-Ok.ensures.bytes.0;
  ends = c.in-Ok.ensures.bytes.1 c.if-count-eq0.true (omega (arith, c.read.auto.buf));
}

pub returns-in-Err-clause-lost : goal.returns-in-Err-clause-lost
returns-in-Err-clause-lost g c =
    let left = g.R.Read.remaining c.args.reader.now in
    record { piece = []; consumed = Consumes-kept left left (g.R.Read.remaining c.read.new.self) [] (Consumes-nil left) c.in-Err.ensures.bytes; short = omega arith }

pub returns-in_err-event-clause-lost : goal.returns-in_err-event-clause-lost
returns-in_err-event-clause-lost g c =
    let bound = c.in-Ok.ensures.bound in
    let piece = take c.in-Ok.count c.read.new.buf in
    if_err c.from_residual.result (λ _. IsLost (g.R.Read.remaining c.args.reader.now) (g.R.Read.remaining c.read.new.self))
    (λ _. record { piece = piece; consumed = c.in-Ok.ensures.bytes.0; short = omega (arith, bound.0, bound.1, c.read.auto.buf, length-take c.in-Ok.count c.read.new.buf) })
