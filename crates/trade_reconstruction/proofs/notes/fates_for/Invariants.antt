use Rattle.std.proofs.Common.{◌≡◌, take}
use Rattle.trade_reconstruction.specs.Emitted.{fates_for}
use Rattle.trade_reconstruction.proofs.notes.fates_for.Given as goal

abbrev pub invariant-loop-note : goal.invariant-loop-note
invariant-loop-note l = l.fates.items ≡ fates_for l.number (take l.note-index l.notes)
