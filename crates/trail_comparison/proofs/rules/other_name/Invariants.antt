use Rattle.participants.specs.Relations.{name_of}
use Rattle.trail_comparison.specs.Rules.{SameBefore}
use Rattle.trail_comparison.proofs.rules.other_name.Given as goal

abbrev pub invariant-loop-place : goal.invariant-loop-place
invariant-loop-place l = SameBefore (name_of l.own) (name_of l.other) l.place
