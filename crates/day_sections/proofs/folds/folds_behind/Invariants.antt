use Rattle.std.proofs.Common.{◌≡◌, ◌≤◌, ◌+◌, ◌++◌, drop, length}
use Rattle.day_sections.specs.Folds.{folds_from}
use Rattle.day_sections.proofs.folds.folds_behind.Given as goal

-- the folds so far, and then those of the others, are all
abbrev pub invariant-loop-at : goal.invariant-loop-at
invariant-loop-at l = (l.at ≤ length l.others) × (l.folds.items ++ folds_from l.start (l.at + 1) l.hour (drop l.at l.others) ≡ folds_from 0 1 l.first l.others)
