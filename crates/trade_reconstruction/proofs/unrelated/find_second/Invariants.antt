use Rattle.std.proofs.Common.{◌≡◌, drop, find}
use Rattle.trade_reconstruction.specs.Unrelated.{has_third}
use Rattle.trade_reconstruction.proofs.unrelated.find_second.Given as goal

abbrev pub invariant-loop-b : goal.invariant-loop-b
invariant-loop-b l = find (λ b. has_third l.participants l.requester l.a b l.recipients) (drop l.b-index l.recipients) ≡ find (λ b. has_third l.participants l.requester l.a b l.recipients) l.recipients
