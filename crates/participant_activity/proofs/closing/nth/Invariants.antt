use Rattle.std.proofs.Common.{◌≡◌}
use Rattle.participant_activity.specs.Figures.{nth}
use Rattle.participant_activity.proofs.closing.nth.Given as goal

abbrev pub invariant-loop-ms : goal.invariant-loop-ms
invariant-loop-ms l = nth l.ms-iterator l.left ≡ nth l.times.entries l.k
