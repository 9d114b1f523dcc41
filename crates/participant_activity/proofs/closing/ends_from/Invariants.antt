use Rattle.std.proofs.Common.{◌≡◌}
use Rattle.participant_activity.specs.Figures.{ends_from, no_ends}
use Rattle.participant_activity.proofs.closing.ends_from.Given as goal

abbrev pub invariant-loop-name : goal.invariant-loop-name
invariant-loop-name l = ends_from l.last l.ends l._name-iterator ≡ ends_from l.last no_ends l.asked.entries
