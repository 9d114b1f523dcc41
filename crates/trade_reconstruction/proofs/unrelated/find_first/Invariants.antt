use Rattle.std.proofs.Common.{◌≡◌, drop, find}
use Rattle.trade_reconstruction.specs.Unrelated.{has_second}
use Rattle.trade_reconstruction.proofs.unrelated.find_first.Given as goal

abbrev pub invariant-loop-a : goal.invariant-loop-a
invariant-loop-a l = find (λ a. has_second l.participants l.requester a l.recipients) (drop l.a-index l.recipients) ≡ find (λ a. has_second l.participants l.requester a l.recipients) l.recipients
