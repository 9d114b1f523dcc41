use Rattle.trail_comparison.proofs.Silent.{nothing_left_out}
use Rattle.trail_comparison.proofs.laws.a_silent_participant_changes_nothing.Goals as goal

pub returns : goal.returns
returns c = nothing_left_out
