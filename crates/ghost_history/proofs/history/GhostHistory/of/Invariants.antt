use Rattle.std.proofs.Common.{◌≡◌, take}
use Rattle.ghost_history.proofs.history.GhostHistory.of.Given as goal

abbrev pub invariant-loop-entry : goal.invariant-loop-entry
invariant-loop-entry g l = l.history ≡ take l.entry-index l.entries
