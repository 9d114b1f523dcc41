use Rattle.std.proofs.Common.{length}
use Rattle.sef_client.specs.Heard.{Grows}
use Rattle.sef_client.proofs.exchange.receive_piece.Given as goal

abbrev pub invariant-loop-body : goal.invariant-loop-body
invariant-loop-body l = Grows l.initial.party.heard l.party.heard

abbrev pub decreases-loop-body : goal.decreases-loop-body
decreases-loop-body l = length l.incoming.unread
