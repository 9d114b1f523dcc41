use Rattle.std.proofs.Common.{◌≡◌, drop}
use Rattle.frame_explanation.specs.Text.{is_silent}
use Rattle.frame_explanation.proofs.text.is_silent.Given as goal

abbrev pub invariant-loop-one : goal.invariant-loop-one
invariant-loop-one l = is_silent (drop l.one-index l.sent) ≡ is_silent l.sent
