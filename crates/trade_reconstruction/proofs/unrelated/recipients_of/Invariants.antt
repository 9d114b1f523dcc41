use Rattle.std.proofs.Common.{◌≡◌, take}
use Rattle.trade_reconstruction.specs.Lines.{recipients_of}
use Rattle.trade_reconstruction.proofs.unrelated.recipients_of.Given as goal

abbrev pub invariant-loop-word : goal.invariant-loop-word
invariant-loop-word l = l.recipients.items ≡ recipients_of l.room (take l.word-index l.words)
