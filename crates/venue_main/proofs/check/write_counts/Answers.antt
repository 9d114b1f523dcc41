use Rattle.std.proofs.KnownBytes.{Appends-kept}
use Rattle.venue_main.specs.Check.{counted}
use Rattle.venue_main.proofs.Outcomes.{on_ok}
use Rattle.venue_main.proofs.check.write_counts.Goals as goal

pub returns : goal.returns
returns g c =
    let written = g.W.Write.contents c.args.writer.now in
    let mid = g.W.Write.contents c.writeln.new.self in
    let written' = g.W.Write.contents c.flush.new.self in
    on_ok c.flush.result _ (Appends-kept written mid written' (counted c.args.names c.args.pairs c.args.rows) c.in_ok-writeln.ensures.bytes c.flush.ensures.bytes)
