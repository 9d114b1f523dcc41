use Rattle.std.proofs.Common.{◌≡◌}
use Rattle.participant_activity.specs.Figures.{ranked, ranked_from}
use Rattle.participant_activity.proofs.ranking.ranked.Given as goal

abbrev pub invariant-loop-cause : goal.invariant-loop-cause
invariant-loop-cause l = ranked_from l.all.entries l.cause-iterator ≡ ranked l.causes.entries
