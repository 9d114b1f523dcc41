use Rattle.std.proofs.Common.{◌≡◌, ◌++◌, take}
use Rattle.trade_reconstruction.proofs.notes.push_fates.Given as goal

abbrev pub invariant-loop-fate : goal.invariant-loop-fate
invariant-loop-fate l = l.fates.items ≡ l.fn.fates.items ++ take l.fate-index l.more
