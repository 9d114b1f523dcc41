use Rattle.std.proofs.Common.{◌≡◌, take}
use Rattle.fix_session.specs.Reader.{Reader}
use Rattle.frame_explanation.specs.Ignored.{ignored}
use Rattle.frame_explanation.proofs.ignored.ignored_tags.Given as goal

abbrev pub invariant-loop-one : goal.invariant-loop-one
invariant-loop-one l = (r : Reader) → l.tags.items ≡ ignored r (take l.one-index l.heard)
