use Rattle.std.proofs.Common.{◌≡◌, drop}
use Rattle.venue_rules.specs.Requests.{has_twice}
use Rattle.rfq_room.proofs.recipients.has_twice.Given as goal

abbrev pub invariant-loop-k : goal.invariant-loop-k
invariant-loop-k l = has_twice (drop l.k l.recipients) ≡ has_twice l.recipients
