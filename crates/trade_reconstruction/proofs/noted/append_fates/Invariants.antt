use Rattle.std.proofs.Common.{◌≡◌, ◌++◌, take}
use Rattle.trade_reconstruction.specs.NoteLines.{fate_lines}
use Rattle.trade_reconstruction.proofs.noted.append_fates.Given as goal

abbrev pub invariant-loop-fate : goal.invariant-loop-fate
invariant-loop-fate l = l.text.items ≡ l.fn.text.items ++ fate_lines (take l.fate-index l.fates)
