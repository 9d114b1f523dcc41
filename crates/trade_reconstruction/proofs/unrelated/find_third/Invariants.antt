use Rattle.std.proofs.Common.{◌≡◌, drop, find}
use Rattle.participants.specs.Relations.{are_unrelated}
use Rattle.trade_reconstruction.proofs.unrelated.find_third.Given as goal

abbrev pub invariant-loop-c : goal.invariant-loop-c
invariant-loop-c l = find (are_unrelated l.participants l.requester l.a l.b) (drop l.c-index l.recipients) ≡ find (are_unrelated l.participants l.requester l.a l.b) l.recipients
